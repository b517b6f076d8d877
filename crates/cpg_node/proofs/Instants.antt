-- A node comes to finitely many instants: each turn leaves fewer. In the lemmas o is what a node knows of a process of
-- its own, os of all of them, and xs are times.
use Rattle.std.proofs.Common.{◌≡◌, ◌≢◌, ℕ, ◌+◌, ◌*◌, ◌<◌, ◌≤◌, Bool, true, false, cond, ◌||◌, ◌==◌, List, [], ◌∷◌, ◌++◌}
use Rattle.std.proofs.Common.{length, filter, fold, Contains, Option, Some, None, refl, sym, ap, ◌∙◌, subst}
use Rattle.std.proofs.Common.{arith, inl, inr, ◌⊎◌, true≢false, ltb, lt-ltb, ltb-true, le-ltb, eq-eqb, ne_eqb}
use Rattle.std.specs.Prelude.{is_some}
use Rattle.std.specs.List.{flat_map, list_any}
use Rattle.std.proofs.lemmas.Bool.{cases_eq, cond-true, cond-false}
use Rattle.std.proofs.lemmas.List.{length-map, length-append}
use Rattle.std.proofs.lemmas.List.Elements.{All-head, All-tail, filter-append, Contains-append_cases}
use Rattle.std.proofs.lemmas.List.Sums.{sum_by-append}
use Rattle.cpg_base.proofs.Lists.{Contains-first, Contains-rest, Contains-cases, Contains-nil, Contains-filter_parts}
use Rattle.cpg_base.proofs.Lists.{filter_none}
use Rattle.cpg_base.proofs.Sums.{length-filter-le}
use Rattle.cpg_table.specs.Table.{Row}
use Rattle.cpg_table.specs.Lawful.{IsTable, column_count, rows_of}
use Rattle.cpg_node.specs.Dispatcher.{Dispatcher, Own, OwnTable, Running, Ended, Frame, Act, candidates, is_after, next}
use Rattle.cpg_node.specs.Dispatcher.{possible_ends, times_in, zip_with, running_after, ends_in_turn, acts_of_turn}
use Rattle.cpg_node.specs.Dispatcher.{turn, finished}
use Rattle.cpg_node.specs.Plan.{fixed_times}
use Rattle.cpg_node.proofs.Next.{least_of_parts, next_is}
use Rattle.cpg_node.proofs.Turning.{ends_reported}
use Rattle.cpg_node.proofs.Rooms.{all_left, times_count, room_turn, room_open}
use Rattle.cpg_node.proofs.TableBounds.{HaveFewEnds, DoRise, own_rise, own_few_ends}
use Rattle.cpg_node.specs.Instants.{left_of, planned_times, end_times, entries_left, instants_left}

-- ---- fewer times are left after a later turn

-- what is after a turn (`time`) is after the turn before it (`last`)
after_both : (last : Option ℕ) (time x : ℕ) → is_after last time ≡ true → is_after (Some time) x ≡ true →
    is_after last x ≡ true
after_both None time x after b = refl
after_both (Some t) time x after b = lt-ltb t x (omega (arith, ltb-true t time after, ltb-true time x b))

-- after a later turn no more of the times are left
pub fewer_left : (last : Option ℕ) (time : ℕ) (xs : List ℕ) → is_after last time ≡ true →
    left_of (Some time) xs ≤ left_of last xs
fewer_left last time xs after =
    length-filter-le (is_after (Some time)) (is_after last) xs (λ x b. after_both last time x after b)

-- if x passes the first test only if it passes the second, the list that the first test keeps stays the shorter one
-- with x in front
one_kept : (b c : Bool) (x : ℕ) (xs ys : List ℕ) → (b ≡ true → c ≡ true) → length xs < length ys →
    length (cond b (x ∷ xs) xs) < length (cond c (x ∷ ys) ys)
one_kept true true x xs ys kept inside = omega arith
one_kept true false x xs ys kept inside = absurd (true≢false (sym (kept refl)))
one_kept false true x xs ys kept inside = omega arith
one_kept false false x xs ys kept inside = inside

-- after a later turn fewer of the times are left, if it is at one of them; by induction: if that is the first one, it
-- is left no longer, and if it is a later one, fewer of the rest are left
pub one_less : (last : Option ℕ) (time : ℕ) (xs : List ℕ) → is_after last time ≡ true → Contains xs time →
    left_of (Some time) xs < left_of last xs
one_less last time [] after among = absurd (Contains-nil time among)
one_less last time (x ∷ xs) after c = elim (Contains-cases x xs time c) [
  | inl e ↦ first (ltb time x) (is_after last x) (le-ltb time x (omega (arith, e)))
      (subst (λ x. is_after last x ≡ true) (sym e) after) (fewer_left last time xs after)
  | inr m ↦ one_kept (ltb time x) (is_after last x) x (filter (is_after (Some time)) xs) (filter (is_after last) xs)
      (after_both last time x after) (one_less last time xs after m)
]
  where
    -- the first time is that of the turn, so it counts before the turn alone
    first : (b c : Bool) → b ≡ false → c ≡ true → left_of (Some time) xs ≤ left_of last xs →
        length (cond b (x ∷ filter (is_after (Some time)) xs) (filter (is_after (Some time)) xs))
        < length (cond c (x ∷ filter (is_after last) xs) (filter (is_after last) xs))
    first true c fails holds l = absurd (true≢false fails)
    first false true fails holds l = omega arith
    first false false fails holds l = absurd (true≢false (sym holds))

-- of a list with one more element in front, no fewer pass
front_left : (p : ℕ → Bool) (x : ℕ) (xs : List ℕ) → length (filter p xs) ≤ length (filter p (x ∷ xs))
front_left p x xs = go (p x)
  where
    -- by whether the element in front passes
    go : (b : Bool) → length (filter p xs) ≤ length (cond b (x ∷ filter p xs) (filter p xs))
    go true = omega arith
    go false = omega arith

-- ---- the possible ends of executions

-- a process with at most 9 durations has at most 9 possible ends
few_each : (o : Own) (run : Option Running) → length o.times ≤ 9 → length (possible_ends o run) ≤ 9
few_each o None l = omega arith
few_each o (Some run) l = omega (arith, l, length-map o.times (λ d. run.start + d))

-- if each process has at most 9 possible ends, all processes together have at most 9 for each
pub few_ends : (os : List Own) (runs : List (Option Running)) → HaveFewEnds os →
    length (flat_map (λ ends. ends) (zip_with possible_ends os runs)) ≤ length os * 9
few_ends [] runs have_few_ends = omega arith
few_ends (o ∷ os) [] have_few_ends = omega arith
few_ends (o ∷ os) (run ∷ runs) have_few_ends = omega (
  arith,
  few_each o run (All-head (λ (o : Own). length o.times ≤ 9) o os have_few_ends),
  few_ends os runs (All-tail (λ (o : Own). length o.times ≤ 9) o os have_few_ends),
  length-append (possible_ends o run) (flat_map (λ ends. ends) (zip_with possible_ends os runs)),
)

-- ---- a turn starts no more executions than it has acts

-- no more pass one of two tests than pass the first and pass the second, added up; by induction on the list, by which
-- of the tests the first one passes
either_few : (p q : Own → Bool) (os : List Own) →
    length (filter (λ o. p o || q o) os) ≤ length (filter p os) + length (filter q os)
either_few p q [] = omega arith
either_few p q (o ∷ os) = go (p o) (q o) (filter (λ o. p o || q o) os) (filter p os) (filter q os) (either_few p q os)
  where
    -- by whether the first process passes the one test, and whether it passes the other
    go : (a b : Bool) (all some others : List Own) → length all ≤ length some + length others →
        length (cond (a || b) (o ∷ all) all) ≤ length (cond a (o ∷ some) some) + length (cond b (o ∷ others) others)
    go true true all some others l = omega (arith, l)
    go true false all some others l = omega (arith, l)
    go false true all some others l = omega (arith, l)
    go false false all some others l = l

-- at most one own process has a number, since their numbers rise
once : (x : ℕ) (os : List Own) → DoRise os → length (filter (λ (o : Own). x == o.process) os) ≤ 1
once x [] do_rise = omega arith
once x (o ∷ os) do_rise = elim (cases_eq x o.process) [
  | inl e ↦ omega (
    arith,
    ap (λ (l : List Own). length l) (cond-true (x == o.process) (o ∷ filter (λ (o : Own). x == o.process) os)
        (filter (λ (o : Own). x == o.process) os) (eq-eqb x o.process e)),
    ap (λ (l : List Own). length l) (filter_none (λ (o : Own). x == o.process) os
        (λ y m. ne_eqb x y.process (λ s. absurd (omega (arith, do_rise.0 y m, e, s))))),
  )
  | inr ne ↦ omega (
    arith,
    ap (λ (l : List Own). length l) (cond-false (x == o.process) (o ∷ filter (λ (o : Own). x == o.process) os)
        (filter (λ (o : Own). x == o.process) os) (ne_eqb x o.process ne)),
    once x os do_rise.1,
  )
]

-- the processes that acts start
abbrev started : List Act → List Own → List Own
started acts os = filter (λ (o : Own). list_any (λ (a : Act). a.item == o.process) acts) os

-- no more processes are started than there are acts; by induction on the acts, each of which starts one at most
started_few : (acts : List Act) (os : List Own) → DoRise os → length (started acts os) ≤ length acts
started_few [] os do_rise = omega (
  arith,
  ap (λ (l : List Own). length l)
      (filter_none (λ (o : Own). list_any (λ (a : Act). a.item == o.process) []) os (λ o m. refl)),
)
started_few (a ∷ acts) os do_rise = omega (
  arith,
  either_few (λ (o : Own). a.item == o.process) (λ (o : Own). list_any (λ (a : Act). a.item == o.process) acts) os,
  once a.item os do_rise,
  started_few acts os do_rise,
)

-- as many pass of two lists in a row as pass of the one and of the other
kept_parts : (p : ℕ → Bool) (xs ys : List ℕ) →
    length (filter p (xs ++ ys)) ≡ length (filter p xs) + length (filter p ys)
kept_parts p xs ys = ap (λ (l : List ℕ). length l) (filter-append p xs ys) ∙ length-append (filter p xs) (filter p ys)

-- a turn adds at most 9 possible ends for each process that it starts; by induction on the own processes: one that
-- starts has its new ends in place of the old, one that ends has none, any other keeps its own
grown_ends : (p : ℕ → Bool) (ended : List Ended) (acts : List Act) (time : ℕ) (os : List Own)
    (runs : List (Option Running)) →
    HaveFewEnds os →
    length (filter p
    (flat_map (λ ends. ends) (zip_with possible_ends os (zip_with (running_after ended acts time) os runs))))
    ≤ length (filter p (flat_map (λ ends. ends) (zip_with possible_ends os runs))) + length (started acts os) * 9
grown_ends p ended acts time [] runs have_few_ends = omega arith
grown_ends p ended acts time (o ∷ os) [] have_few_ends = omega arith
grown_ends p ended acts time (o ∷ os) (run ∷ runs) have_few_ends =
    go (list_any (λ (a : Act). a.item == o.process) acts) (list_any (λ (e : Ended). e.process == o.process) ended)
    (flat_map (λ ends. ends) (zip_with possible_ends os (zip_with (running_after ended acts time) os runs)))
    (flat_map (λ ends. ends) (zip_with possible_ends os runs)) (started acts os)
    (grown_ends p ended acts time os runs (All-tail (λ (o : Own). length o.times ≤ 9) o os have_few_ends))
  where
    -- by whether the first process starts in the turn, and whether it ends in it
    go : (starts ends : Bool) (new old : List ℕ) (more : List Own) →
        length (filter p new) ≤ length (filter p old) + length more * 9 →
        length (filter p
        (possible_ends o (cond starts (Some (record { start = time; report = None })) (cond ends None run)) ++ new))
        ≤ length (filter p (possible_ends o run ++ old)) + length (cond starts (o ∷ more) more) * 9
    go true ends new old more l =
        let begun : Option Running = Some (record { start = time; report = None }) in
        omega (
          arith,
          l,
          kept_parts p (possible_ends o begun) new,
          kept_parts p (possible_ends o run) old,
          all_left p (possible_ends o begun),
          few_each o begun (All-head (λ (o : Own). length o.times ≤ 9) o os have_few_ends),
        )
    go false true new old more l = omega (arith, l, kept_parts p (possible_ends o run) old)
    go false false new old more l =
        omega (arith, l, kept_parts p (possible_ends o run) new, kept_parts p (possible_ends o run) old)

-- ---- the instants of a node

-- the next instant is a planned time or a possible end, as it is one of the candidates, or 0 before the first turn
instant_is : (d : Dispatcher) (time : ℕ) → next d ≡ Some time →
    Contains (planned_times d) time ⊎ Contains (end_times d) time
instant_is d time comes = go (is_some d.last)
    (Contains-filter_parts (is_after d.last) (cond (is_some d.last) (candidates d) (0 ∷ candidates d)) time
    (least_of_parts (filter (is_after d.last) (cond (is_some d.last) (candidates d) (0 ∷ candidates d))) time
    comes).0).0
  where
    -- by whether the node has taken a turn; if not, 0 is an instant too
    go : (b : Bool) → Contains (cond b (candidates d) (0 ∷ candidates d)) time →
        Contains (cond b (fixed_times d.table) (0 ∷ fixed_times d.table)) time ⊎ Contains (end_times d) time
    go true among = Contains-append_cases (fixed_times d.table) (end_times d) time among
    go false among = elim (Contains-cases 0 (candidates d) time among) [
      | inl s ↦ inl (subst (Contains (0 ∷ fixed_times d.table)) s (Contains-first 0 (fixed_times d.table)))
      | inr m ↦ elim (Contains-append_cases (fixed_times d.table) (end_times d) time m) [
        | inl f ↦ inl (Contains-rest 0 (fixed_times d.table) time f)
        | inr n ↦ inr n
      ]
    ]

-- of the table's times no more pass a test than of the planned times, which may have 0 besides
fixed_left : (d : Dispatcher) (p : ℕ → Bool) →
    length (filter p (fixed_times d.table)) ≤ length (filter p (planned_times d))
fixed_left d p = go (is_some d.last)
  where
    -- by whether the node has taken a turn; if not, 0 is planned too
    go : (b : Bool) →
        length (filter p (fixed_times d.table))
        ≤ length (filter p (cond b (fixed_times d.table) (0 ∷ fixed_times d.table)))
    go true = omega arith
    go false = front_left p 0 (fixed_times d.table)

-- a turn leaves fewer instants
module _ (d : Dispatcher) (time : ℕ) (frames : List Frame) (comes : next d ≡ Some time) (rise : DoRise d.table.own)
    (ends : HaveFewEnds d.table.own) where
  -- the next instant is after the last turn
  after : is_after d.last time ≡ true
  after = (next_is d time comes).after

  -- a turn leaves fewer instants: its own, planned or an end, is left no longer, and each act adds at most 9 ends but
  -- takes an entry that counted for 9
  pub turn_less : instants_left (turn d time [] frames) < instants_left d
  turn_less =
      let acts : List Act = acts_of_turn d time [] frames in
      let grown = grown_ends (is_after (Some time)) (ends_in_turn d time []) acts time d.table.own d.running ends in
      let few = started_few acts d.table.own rise in
      let room = room_turn d time frames comes in
      let fixed = fixed_left d (is_after (Some time)) in
      elim (instant_is d time comes) [
        | inl c ↦ omega (
          arith,
          one_less d.last time (planned_times d) after c,
          fewer_left d.last time (end_times d) after,
          grown,
          few,
          room,
          fixed,
        )
        | inr c ↦ omega (
          arith,
          fewer_left d.last time (planned_times d) after,
          one_less d.last time (end_times d) after c,
          grown,
          few,
          room,
          fixed,
        )
      ]

-- a turn of a lawful table leaves fewer instants
pub table_less : (d : Dispatcher) (time : ℕ) (frames : List Frame) → next d ≡ Some time → IsTable d.table →
    instants_left (turn d time [] frames) < instants_left d
table_less d time frames comes made = turn_less d time frames comes (own_rise d.table made) (own_few_ends d.table made)

-- reports do not change how many instants are left
pub reported_left : (d : Dispatcher) (es : List Ended) → instants_left (fold finished d es) ≡ instants_left d
reported_left d [] = refl
reported_left d (e ∷ es) = reported_left (finished d e) es ∙ ap
    (λ l. left_of d.last (planned_times d) + left_of d.last (flat_map (λ ends. ends) l) + length (entries_left d) * 9)
    (ends_reported e d.table.own d.running)

-- ---- how many instants there are at all

-- a table has a time for each of its columns
fixed_count : (t : OwnTable) → length (fixed_times t) ≡ column_count (rows_of t)
fixed_count t = omega (
  arith,
  length-append (times_in t.starts ++ times_in t.sends) (times_in t.hears),
  length-append (times_in t.starts) (times_in t.sends),
  times_count t.starts,
  times_count t.sends,
  times_count t.hears,
  sum_by-append (λ (row : Row). length row.columns) t.starts (t.sends ++ t.hears),
  sum_by-append (λ (row : Row). length row.columns) t.sends t.hears,
)

-- at most 10 instants are left for each column (its time, and 9 ends of what it may start), 0 before the first turn,
-- and 9 ends for each of the 128 processes that may run: 9 · 128 + 1 = 1153
pub most_instants : (d : Dispatcher) → length d.table.own ≤ 128 → HaveFewEnds d.table.own →
    instants_left d ≤ column_count (rows_of d.table) * 10 + 1153
most_instants d few ends = omega (
  arith,
  all_left (is_after d.last) (planned_times d),
  planned (is_some d.last),
  fixed_count d.table,
  all_left (is_after d.last) (end_times d),
  few_ends d.table.own d.running ends,
  few,
  room_open d,
  sum_by-append (λ (row : Row). length row.columns) d.table.starts (d.table.sends ++ d.table.hears),
  sum_by-append (λ (row : Row). length row.columns) d.table.sends d.table.hears,
)
  where
    -- by whether the node has taken a turn; if not, 0 is planned too
    planned : (b : Bool) →
        length (cond b (fixed_times d.table) (0 ∷ fixed_times d.table)) ≤ length (fixed_times d.table) + 1
    planned true = omega arith
    planned false = omega arith
