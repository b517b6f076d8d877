-- How many acts a node may still do: each entry of its table is taken at most once.
use Rattle.std.proofs.Common.{◌≡◌, ℕ, ◌+◌, ◌≤◌, Bool, true, false, cond, ◌&&◌, ◌==◌, List, [], ◌∷◌, ◌++◌, length, map}
use Rattle.std.proofs.Common.{filter, Option, Some, None, refl, sym, ap, ap₂, ◌∙◌, arith, true≢false, ltb}
use Rattle.std.proofs.Common.{lt-ltb, ltb-true, eqb-true}
use Rattle.std.specs.List.{flat_map, list_all}
use Rattle.std.proofs.lemmas.List.{length-map, length-append}
use Rattle.std.proofs.lemmas.List.Elements.{filter-append}
use Rattle.std.proofs.lemmas.List.Sums.{sum_by-append, sum_by-cons}
use Rattle.cpg_table.specs.Lawful.{column_count}
use Rattle.cpg_table.specs.Table.{Row}
use Rattle.cpg_cube.specs.declared.column.Column.{Column}
use Rattle.cpg_node.specs.Dispatcher.{Dispatcher, Range, Frame, Act, is_after, next, has_heard, acts_of_columns}
use Rattle.cpg_node.specs.Dispatcher.{acts_of_turn, heard_after, turn, times_in}
use Rattle.cpg_node.proofs.Next.{next_is}
use Rattle.cpg_node.specs.Instants.{entries_left}

-- those of the times that are the turn's
abbrev now : ℕ → List ℕ → List ℕ
now time ts = filter (λ t. t == time) ts

-- ---- a turn does no more acts than there are entries of its time

-- a row has no more acts at a time than columns of that time; by induction on the columns: one of the time acts if its
-- cube has been heard
columns_few : (heard : List Range) (time x i : ℕ) (cs : List Column) →
    length (acts_of_columns heard time x i cs) ≤ length (now time (map (λ (c : Column). c.time) cs))
columns_few heard time x i [] = omega arith
columns_few heard time x i (c ∷ cs) =
    go (c.time == time) (list_all (has_heard heard) c.cube) (columns_few heard time x (i + 1) cs)
  where
    -- by whether the first column has this time, and whether its literals have been heard
    go : (a b : Bool) →
        length (acts_of_columns heard time x (i + 1) cs) ≤ length (now time (map (λ (c : Column). c.time) cs)) →
        length (cond (a && b) (record { time = time; item = x; column = i } ∷ []) []
        ++ acts_of_columns heard time x (i + 1) cs) ≤ length
        (cond a (c.time ∷ now time (map (λ (c : Column). c.time) cs)) (now time (map (λ (c : Column). c.time) cs)))
    go true true l = omega (arith, l)
    go true false l = omega (arith, l)
    go false b l = l

-- rows have no more acts at a time than columns of that time; by induction on the rows, whose acts and times are added
rows_few : (heard : List Range) (time : ℕ) (rows : List Row) →
    length (flat_map (λ (row : Row). acts_of_columns heard time row.item 0 row.columns) rows)
    ≤ length (now time (times_in rows))
rows_few heard time [] = omega arith
rows_few heard time (row ∷ rows) =
    let acts : List Act = acts_of_columns heard time row.item 0 row.columns in
    let more : List Act = flat_map (λ (row : Row). acts_of_columns heard time row.item 0 row.columns) rows in
    let times : List ℕ = map (λ (c : Column). c.time) row.columns in
    omega (
      arith,
      length-append acts more,
      ap (λ (l : List ℕ). length l) (filter-append (λ t. t == time) times (times_in rows)),
      length-append (now time times) (now time (times_in rows)),
      columns_few heard time row.item 0 row.columns,
      rows_few heard time rows,
    )

-- what is no earlier than a time that is after the last turn is after the last turn too
pub after_later : (last : Option ℕ) (time x : ℕ) → is_after last time ≡ true → time ≤ x → is_after last x ≡ true
after_later None time x after h = refl
after_later (Some l) time x after h = lt-ltb l x (omega (arith, ltb-true l time after, h))

-- of times, those of a turn and those after it are no more than those after the last turn; by induction: each time
-- counts once at most on the left, and then on the right
left_then : (last : Option ℕ) (time : ℕ) → is_after last time ≡ true → (ts : List ℕ) →
    length (now time ts) + length (filter (is_after (Some time)) ts) ≤ length (filter (is_after last) ts)
left_then last time after [] = omega arith
left_then last time after (t ∷ ts) = go (t == time) (ltb time t) (is_after last t)
    (λ e f. omega (arith, eqb-true t time e, ltb-true time t f))
    (λ e. after_later last time t after (omega (arith, eqb-true t time e)))
    (λ f. after_later last time t after (omega (arith, ltb-true time t f)))
    (left_then last time after ts)
  where
    -- by whether the first time is that of the turn, is after it, and is after the last turn
    go : (e f b : Bool) → (e ≡ true → f ≡ true → ⊥) → (e ≡ true → b ≡ true) → (f ≡ true → b ≡ true) →
        length (now time ts) + length (filter (is_after (Some time)) ts) ≤ length (filter (is_after last) ts) →
        length (cond e (t ∷ now time ts) (now time ts))
        + length (cond f (t ∷ filter (is_after (Some time)) ts) (filter (is_after (Some time)) ts)) ≤ length
        (cond b (t ∷ filter (is_after last) ts) (filter (is_after last) ts))
    go true true b apart first_kept second_kept h = absurd (apart refl refl)
    go true false true apart first_kept second_kept h = omega (arith, h)
    go true false false apart first_kept second_kept h = absurd (true≢false (sym (first_kept refl)))
    go false true true apart first_kept second_kept h = omega (arith, h)
    go false true false apart first_kept second_kept h = absurd (true≢false (sym (second_kept refl)))
    go false false true apart first_kept second_kept h = omega (arith, h)
    go false false false apart first_kept second_kept h = h

-- the acts of a turn and the entries left after it are no more than the entries that were left before it
pub room_turn : (d : Dispatcher) (time : ℕ) (frames : List Frame) → next d ≡ Some time →
    length (acts_of_turn d time [] frames) + length (entries_left (turn d time [] frames)) ≤ length
    (entries_left d)
room_turn d time frames comes = omega (
  arith,
  rows_few (heard_after d time [] frames) time (d.table.sends ++ d.table.starts),
  left_then d.last time (next_is d time comes).after (times_in (d.table.sends ++ d.table.starts)),
)

-- no more times pass a test than there are
pub all_left : (p : ℕ → Bool) (xs : List ℕ) → length (filter p xs) ≤ length xs
all_left p [] = omega arith
all_left p (x ∷ xs) = go (p x) (all_left p xs)
  where
    -- by whether the first time passes
    go : (b : Bool) → length (filter p xs) ≤ length xs →
        length (cond b (x ∷ filter p xs) (filter p xs)) ≤ length (x ∷ xs)
    go true l = omega arith
    go false l = omega arith

-- rows have as many times as columns
pub times_count : (rows : List Row) → length (times_in rows) ≡ column_count rows
times_count [] = refl
times_count (row ∷ rows) = length-append (map (λ (c : Column). c.time) row.columns) (times_in rows)
    ∙ ap₂ (λ m n. m + n) (length-map row.columns (λ (c : Column). c.time)) (times_count rows)
    ∙ sym (sum_by-cons (λ (row : Row). length row.columns) row rows)

-- ---- at most all entries are left

-- no more entries are left than there are columns of what the node sends and starts
pub room_open : (d : Dispatcher) → length (entries_left d) ≤ column_count d.table.sends + column_count d.table.starts
room_open d = omega (
  arith,
  all_left (is_after d.last) (times_in (d.table.sends ++ d.table.starts)),
  times_count (d.table.sends ++ d.table.starts),
  sum_by-append (λ (row : Row). length row.columns) d.table.sends d.table.starts,
)
