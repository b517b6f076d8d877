-- What is planned for a time, and the acts of a turn. In the lemmas p is an entry of a plan.
use Rattle.std.proofs.Common.{◌≡◌, ℕ, suc, zero, ◌<◌, ◌≤◌, ◌+◌, ◌-◌, Bool, true, false, cond, ◌&&◌, ◌==◌, List, [], ◌∷◌}
use Rattle.std.proofs.Common.{◌++◌, map, filter, length, take, drop, get_or, Contains, refl, sym, ap, ap₂}
use Rattle.std.proofs.Common.{◌∙◌, subst, arith, drop-cons, add-one, eqb-true, eq-eqb}
use Rattle.std.specs.Prelude.{not}
use Rattle.std.specs.List.{flat_map, list_all}
use Rattle.std.specs.List.Sorted.{IsStableByKey}
use Rattle.std.specs.Ordering.{is_lt, nat_cmp}
use Rattle.std.proofs.lemmas.Bool.Decides.{nat_tests}
use Rattle.std.proofs.lemmas.Bool.{cond-false, cond-true, and_parts}
use Rattle.std.proofs.lemmas.List.{map-append, append_assoc}
use Rattle.std.proofs.lemmas.List.Elements.{filter-append}
use Rattle.cpg_base.proofs.Lists.{Contains-filter, Contains-filter_parts, Contains-map, same_filter}
use Rattle.cpg_table.specs.Table.{Row}
use Rattle.cpg_cube.specs.declared.column.Column.{Column}
use Rattle.cpg_node.specs.Dispatcher.{OwnTable, Range, Act, times_in, has_heard, no_column, acts_of_columns, acts_at}
use Rattle.cpg_node.specs.Plan.{Planned, plan_of_columns, plan_from, plan_of, no_row, takes, act_of, SameAtEachTime}

-- the acts of entries that pass a test are that of the first, if it passes, and then those of the rest
pub acts_more : (test : Planned → Bool) (p : Planned) (ps : List Planned) →
    map act_of (filter test (p ∷ ps)) ≡ map act_of (filter test (p ∷ [])) ++ map act_of (filter test ps)
acts_more test p ps = go (test p)
  where
    -- by whether the first entry passes
    go : (b : Bool) →
        map act_of (cond b (p ∷ filter test ps) (filter test ps)) ≡ map act_of (cond b (p ∷ []) [])
        ++ map act_of (filter test ps)
    go true = refl
    go false = refl

-- the plan of two lists of rows, the first of which is at `place`, is that of the one and then that of the other; by
-- induction on the first
pub plan_from-append : (place : ℕ) (xs ys : List Row) →
    plan_from place (xs ++ ys) ≡ plan_from place xs ++ plan_from (place + length xs) ys
plan_from-append place [] ys = let same : place ≡ place + 0 = omega arith in ap (λ n. plan_from n ys) same
plan_from-append place (x ∷ xs) ys =
    ap (λ l. plan_of_columns place x.item 0 x.columns ++ l) (plan_from-append (place + 1) xs ys)
    ∙ (let same : place + 1 + length xs ≡ place + suc (length xs) = omega arith in
    ap (λ n. plan_of_columns place x.item 0 x.columns ++ (plan_from (place + 1) xs ++ plan_from n ys)) same
    ∙ sym (append_assoc (plan_of_columns place x.item 0 x.columns) (plan_from (place + 1) xs)
    (plan_from (place + suc (length xs)) ys)))

-- the times of what is planned for columns are the columns' times
times_of_columns : (place x i : ℕ) (cs : List Column) →
    map (λ (p : Planned). p.time) (plan_of_columns place x i cs) ≡ map (λ (c : Column). c.time) cs
times_of_columns place x i [] = refl
times_of_columns place x i (c ∷ cs) = ap (λ l. c.time ∷ l) (times_of_columns place x (i + 1) cs)

-- the times of what is planned for rows are the times of the rows
pub plan_times : (place : ℕ) (rows : List Row) → map (λ (p : Planned). p.time) (plan_from place rows) ≡ times_in rows
plan_times place [] = refl
plan_times place (row ∷ rows) =
    map-append (λ (p : Planned). p.time) (plan_of_columns place row.item 0 row.columns) (plan_from (place + 1) rows)
    ∙ ap₂ ◌++◌ (times_of_columns place row.item 0 row.columns) (plan_times (place + 1) rows)

-- ---- the acts of a time are those of what is planned for it, in its order

-- an entry that is planned for the time, and whose literals have been heard
abbrev is_due : List Row → List Range → ℕ → Planned → Bool
is_due rows heard time p = (p.time == time) && takes rows heard p

-- The acts of the columns of a row from column i on are those of their planned entries that are due; by induction on
-- the columns. `at`: they are the columns at `place` in the table, where `takes` looks up their cubes.
acts_of_row : (rows : List Row) (heard : List Range) (time place x i : ℕ) (cs : List Column) →
    ((k n : ℕ) → n ≡ i + k → get_or (get_or rows place no_row).columns n no_column ≡ get_or cs k no_column) →
    acts_of_columns heard time x i cs ≡ map act_of (filter (is_due rows heard time) (plan_of_columns place x i cs))
acts_of_row rows heard time place x i [] at = refl
acts_of_row rows heard time place x i (c ∷ cs) at =
    let entry : Planned = record { time = c.time; row = place; item = x; column = i } in
    let same : is_due rows heard time entry ≡ (c.time == time) && list_all (has_heard heard) c.cube =
    ap (λ (d : Column). (c.time == time) && list_all (has_heard heard) d.cube) (at 0 i (omega arith)) in
    let rest = acts_of_row rows heard time place x (i + 1) cs (λ k n e. at (suc k) n (omega arith)) in
    go entry ((c.time == time) && list_all (has_heard heard) c.cube) (is_due rows heard time entry) same
    (λ due. eqb-true c.time time (and_parts (c.time == time) (list_all (has_heard heard) c.cube) due).0)
    (filter (is_due rows heard time) (plan_of_columns place x (i + 1) cs))
    (acts_of_columns heard time x (i + 1) cs) rest
  where
    -- by whether the entry is due, that is, has this time and literals that have all been heard
    go : (entry : Planned) (b e : Bool) → e ≡ b → (b ≡ true → entry.time ≡ time) →
        (ps : List Planned) (acts : List Act) →
        acts ≡ map act_of ps →
        cond b (record { time = time; item = entry.item; column = entry.column } ∷ []) []
        ++ acts ≡ map act_of (cond e (entry ∷ ps) ps)
    go entry true e same on_time ps acts r =
        ap₂ (λ (n : ℕ) (l : List Act). record { time = n; item = entry.item; column = entry.column } ∷ l)
        (sym (on_time refl)) r
        ∙ ap (λ e. map act_of (cond e (entry ∷ ps) ps)) (sym same)
    go entry false e same on_time ps acts r = r ∙ ap (λ e. map act_of (cond e (entry ∷ ps) ps)) (sym same)

-- the acts of rows are those of their planned entries that are due; by induction on the rows, which are those of all
-- from `place` on
acts_of_rows : (all : List Row) (heard : List Range) (time place : ℕ) (rows : List Row) →
    ((k n : ℕ) → n ≡ place + k → get_or all n no_row ≡ get_or rows k no_row) →
    flat_map (λ (row : Row). acts_of_columns heard time row.item 0 row.columns) rows
    ≡ map act_of (filter (is_due all heard time) (plan_from place rows))
acts_of_rows all heard time place [] at = refl
acts_of_rows all heard time place (row ∷ rows) at =
    ap₂ ◌++◌ (acts_of_row all heard time place row.item 0 row.columns
    (λ k n e. ap (λ (r : Row). get_or r.columns n no_column) (at 0 place (omega arith))
    ∙ ap (λ n. get_or row.columns n no_column) (let same : n ≡ k = omega arith in same)))
    (acts_of_rows all heard time (place + 1) rows (λ k n e. at (suc k) n (omega arith)))
    ∙ sym (ap (map act_of) (filter-append (is_due all heard time) (plan_of_columns place row.item 0 row.columns)
    (plan_from (place + 1) rows))
    ∙ map-append act_of (filter (is_due all heard time) (plan_of_columns place row.item 0 row.columns))
    (filter (is_due all heard time) (plan_from (place + 1) rows)))

-- the acts of a time are those of the planned entries of that time whose literals have been heard
acts_planned : (t : OwnTable) (heard : List Range) (time : ℕ) →
    acts_at t heard time ≡ map act_of (filter (is_due (t.sends ++ t.starts) heard time) (plan_of t))
acts_planned t heard time = acts_of_rows (t.sends ++ t.starts) heard time 0 (t.sends ++ t.starts)
    (λ k n e. ap (λ n. get_or (t.sends ++ t.starts) n no_row) (let same : n ≡ k = omega arith in same))

-- to filter by two tests at once is to filter by the one and then by the other
filter_both : {X : Type 0} (p q : X → Bool) (xs : List X) → filter (λ x. p x && q x) xs ≡ filter q (filter p xs)
filter_both p q [] = refl
filter_both p q (x ∷ xs) = go (p x) (filter_both p q xs)
  where
    -- by whether the first element passes the one test
    go : (b : Bool) → filter (λ x. p x && q x) xs ≡ filter q (filter p xs) →
        cond (b && q x) (x ∷ filter (λ x. p x && q x) xs) (filter (λ x. p x && q x) xs) ≡ filter q
        (cond b (x ∷ filter p xs) (filter p xs))
    go true same = ap (λ l. cond (q x) (x ∷ l) l) same
    go false same = same

-- the acts of a time are those of its entries in a plan that has the same entries at each time, in the same order
pub acts_same : (t : OwnTable) (heard : List Range) (time : ℕ) (plan : List Planned) → SameAtEachTime plan (plan_of t) →
    acts_at t heard time
    ≡ map act_of (filter (takes (t.sends ++ t.starts) heard) (filter (λ (p : Planned). p.time == time) plan))
acts_same t heard time plan same = acts_planned t heard time
    ∙ ap (map act_of) (filter_both (λ (p : Planned). p.time == time) (takes (t.sends ++ t.starts) heard) (plan_of t)
    ∙ ap (filter (takes (t.sends ++ t.starts) heard)) (sym (same time)))

-- if just the elements from `first` to before `end` pass, a filter keeps just that part of the list; by induction on
-- the list and both places
pub filter_run : {X : Type 0} (test : X → Bool) (xs : List X) (first end : ℕ) → first ≤ end → end ≤ length xs →
    ((i : ℕ) (d : X) → i < first → test (get_or xs i d) ≡ false) →
    ((i : ℕ) (d : X) → first ≤ i → i < end → test (get_or xs i d) ≡ true) →
    ((i : ℕ) (d : X) → end ≤ i → i < length xs → test (get_or xs i d) ≡ false) →
    filter test xs ≡ take (end - first) (drop first xs)
filter_run {X = X} test [] first end ordered within before in' after = sym (empty first (end - first))
  where
    -- each part of an empty list is empty
    empty : (n m : ℕ) → take {A = X} m (drop n []) ≡ []
    empty zero zero = refl
    empty zero (suc m) = refl
    empty (suc n) zero = refl
    empty (suc n) (suc m) = refl
filter_run test (x ∷ xs) zero zero ordered within before in' after =
    cond-false _ (x ∷ filter test xs) (filter test xs) (after 0 x (omega arith) (omega arith))
    ∙ filter_run test xs zero zero ordered (omega arith) (λ i d h. absurd (omega arith))
    (λ i d h k. absurd (omega arith))
    (λ i d h k. after (suc i) d (omega arith) (omega arith))
filter_run test (x ∷ xs) zero (suc end) ordered within before in' after =
    cond-true _ (x ∷ filter test xs) (filter test xs) (in' 0 x (omega arith) (omega arith))
    ∙ ap (λ l. x ∷ l) (filter_run test xs zero end (omega arith) (omega arith) (λ i d h. absurd (omega arith))
    (λ i d h k. in' (suc i) d (omega arith) (omega arith))
    (λ i d h k. after (suc i) d (omega arith) (omega arith))
    ∙ ap (λ n. take n xs) (let same : end - 0 ≡ end = omega arith in same))
    ∙ ap (λ n. take n (x ∷ xs)) (let same : suc end ≡ suc end - 0 = omega arith in same)
filter_run test (x ∷ xs) (suc first) zero ordered within before in' after = absurd (omega arith)
filter_run test (x ∷ xs) (suc first) (suc end) ordered within before in' after =
    cond-false _ (x ∷ filter test xs) (filter test xs) (before 0 x (omega arith))
    ∙ filter_run test xs first end (omega arith) (omega arith) (λ i d h. before (suc i) d (omega arith))
    (λ i d h k. in' (suc i) d (omega arith) (omega arith))
    (λ i d h k. after (suc i) d (omega arith) (omega arith))
    ∙ ap (λ n. take n (drop first xs)) (let same : end - first ≡ suc end - suc first = omega arith in same)

-- the step of a loop over entries: if the acts so far and those of the entries from n on are all, so are the acts with
-- that of entry n, if it passes, and those of the entries after it
pub acts_next : (test : Planned → Bool) (ps : List Planned) (n : ℕ) (d : Planned) (acts more : List Act) →
    n < length ps →
    acts ++ map act_of (filter test (drop n ps)) ≡ map act_of (filter test ps) →
    more ≡ acts ++ map act_of (filter test (get_or ps n d ∷ [])) →
    more ++ map act_of (filter test (drop (n + 1) ps)) ≡ map act_of (filter test ps)
acts_next test ps n d acts more inside is more_is =
    let rest = map act_of (filter test (drop (n + 1) ps)) in
    ap (λ l. l ++ rest) more_is ∙ append_assoc acts (map act_of (filter test (get_or ps n d ∷ []))) rest
    ∙ ap (λ l. acts ++ l) (sym (ap (λ l. map act_of (filter test l)) (drop-cons ps n d inside
    ∙ ap (λ m. get_or ps n d ∷ drop m ps) (sym (add-one n)))
    ∙ acts_more test (get_or ps n d) (drop (n + 1) ps)))
    ∙ is

-- ---- members of plans

-- an entry of one of two plans with the same entries at each time is one of the other
pub planned_in : (ps qs : List Planned) → SameAtEachTime ps qs → (p : Planned) → Contains ps p → Contains qs p
planned_in ps qs same p among = (Contains-filter_parts (λ (q : Planned). q.time == p.time) qs p
    (subst (λ l. Contains l p) (same p.time)
    (Contains-filter (λ (q : Planned). q.time == p.time) ps p (eq-eqb p.time p.time refl) among))).0

-- the time of a planned entry is a time of the table
pub planned_time : (t : OwnTable) (p : Planned) → Contains (plan_of t) p →
    Contains (times_in (t.sends ++ t.starts)) p.time
planned_time t p among = subst (λ l. Contains l p.time) (plan_times 0 (t.sends ++ t.starts))
    (Contains-map (λ (p : Planned). p.time) (plan_of t) p among)

-- ---- two times of which neither is less, as `nat_cmp` has it, are the same

tie_is : (a b : ℕ) → (not (is_lt (nat_cmp a b)) && not (is_lt (nat_cmp b a))) ≡ (b == a)
tie_is a b = grind (arith, nat_tests)

-- a list and its stable sort by time have the same entries at each time, in the same order: the sort keeps the order of
-- entries that tie, and two entries tie if they have the same time (`tie_is`)
pub same_from_stable : (xs ys : List Planned) → IsStableByKey (λ (p : Planned). p.time) nat_cmp xs ys →
    SameAtEachTime ys xs
same_from_stable xs ys stable time =
    let probe : Planned = record { time = time; row = 0; item = 0; column = 0 } in
    same_filter (λ (p : Planned). p.time == time)
    (λ p. not (is_lt (nat_cmp time p.time)) && not (is_lt (nat_cmp p.time time))) ys
    (λ p c. sym (tie_is time p.time))
    ∙ stable probe ∙ same_filter (λ p. not (is_lt (nat_cmp time p.time)) && not (is_lt (nat_cmp p.time time)))
    (λ (p : Planned). p.time == time) xs (λ p c. tie_is time p.time)

-- the plan of the sends (`one`) and after it that of the starts, whose places begin after the n sends (`two`), is that
-- of the table
pub planned_is : (t : OwnTable) (new one two : List Planned) (sends starts : List Row) (n : ℕ) → new ≡ [] →
    sends ≡ t.sends → starts ≡ t.starts →
    n ≡ length t.sends →
    one ≡ new ++ plan_from 0 sends → two ≡ one ++ plan_from n starts → two ≡ plan_of t
planned_is t new one two sends starts n none sends_are starts_are count one_is two_is =
    two_is ∙ ap₂ ◌++◌ (one_is ∙ ap (λ l. l ++ plan_from 0 sends) none ∙ ap (plan_from 0) sends_are)
    (ap₂ plan_from (count ∙ (let same : length t.sends ≡ 0 + length t.sends = omega arith in same)) starts_are)
    ∙ sym (plan_from-append 0 t.sends t.starts)
