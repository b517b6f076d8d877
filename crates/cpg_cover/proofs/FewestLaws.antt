-- The fewest faults of numbers that no cube of a list matches: by one cube, by steps of a variable, and by parts
-- without common variables.
use Rattle.std.proofs.Common.{slice_set, ℕ, zero, suc, ◌+◌, ◌-◌, ◌<◌, ◌≤◌, ◌≡◌, ◌≢◌, min, max, Bool, true, false, cond}
use Rattle.std.proofs.Common.{◌&&◌, ◌||◌, ◌==◌, List, [], ◌∷◌, ◌++◌, length, get_or, take, sum_by, arith}
use Rattle.std.proofs.Common.{refl, sym, ap, ap₂, ◌∙◌, ⊎_elim, le-leb, leb-true, eq-eqb, ne_eqb}
use Rattle.std.specs.Prelude.{nat_le}
use Rattle.std.specs.List.{list_all, list_any, insert}
use Rattle.std.proofs.Math.Bool.{or-false, and-true}
use Rattle.std.proofs.lemmas.Bool.{cases_Bool, cases_eq, cases_lt, cond-true, cond-false, both_ways, and_parts}
use Rattle.std.proofs.lemmas.Bool.{and_from, or_left, or_right, or_cases, false_from_ne_true}
use Rattle.std.proofs.lemmas.List.{take_more}
use Rattle.std.proofs.lemmas.List.Elements.{All-head, All-tail, Contains-get_or}
use Rattle.std.proofs.lemmas.List.Folds.{list_all-append, list_any-append}
use Rattle.cpg_base.specs.Numbers.{numbers_below, same_bool}
use Rattle.cpg_base.proofs.Lists.{from_any_false, Contains-numbers}
use Rattle.cpg_base.proofs.Sums.{same_sum_by, sum_by-le_each, sum_by-add, le-sum_by, sum_changed}
use Rattle.cpg_cube.specs.declared.literal.Literal.{Literal}
use Rattle.cpg_cover.specs.Fewest.{holds_at, matches_at, is_any_at, AreValues, Needs, NeedsOutside, NeedsWithout, after}
use Rattle.cpg_cover.specs.Fewest.{IsStep, AreMarked}

-- ---- lists that grow

-- given: a test, and a place i in a list; d is what would be read behind the last element
module _ {X : Type 0} (test : X → Bool) (xs : List X) (i : ℕ) (d : X) (inside : i < length xs) where
  -- all of the first i + 1 elements pass if the first i do and the next one does
  taken_all : list_all test (take (i + 1) xs) ≡ (list_all test (take i xs) && test (get_or xs i d))
  taken_all = ap (list_all test) (take_more xs i d inside) ∙ list_all-append test (take i xs) (get_or xs i d ∷ [])
      ∙ ap (λ b. list_all test (take i xs) && b) (and-true (test (get_or xs i d)))

  -- some of the first i + 1 elements passes if one of the first i does or the next one does
  taken_any : list_any test (take (i + 1) xs) ≡ (list_any test (take i xs) || test (get_or xs i d))
  taken_any = ap (list_any test) (take_more xs i d inside) ∙ list_any-append test (take i xs) (get_or xs i d ∷ [])
      ∙ ap (λ b. list_any test (take i xs) || b) (or-false (test (get_or xs i d)))

  -- if the first i elements pass and the next does, too, the first i + 1 pass
  pub all_one_more : list_all test (take i xs) ≡ true → test (get_or xs i d) ≡ true →
      list_all test (take (i + 1) xs) ≡ true
  all_one_more firsts_pass next_passes = taken_all ∙ and_from _ _ firsts_pass next_passes

  -- if some of the first i elements passes, some of the first i + 1 does
  pub any_of_before : list_any test (take i xs) ≡ true → list_any test (take (i + 1) xs) ≡ true
  any_of_before passed = taken_any ∙ or_left _ _ passed

  -- if the next element passes, some of the first i + 1 does
  pub any_of_last : test (get_or xs i d) ≡ true → list_any test (take (i + 1) xs) ≡ true
  any_of_last passes = taken_any ∙ or_right _ _ passes

-- if all elements pass, all but the last do, and the last one does
pub all_before_last : {X : Type 0} (test : X → Bool) (xs : List X) (x : X) → list_all test (xs ++ x ∷ []) ≡ true →
    (list_all test xs ≡ true) × (test x ≡ true)
all_before_last test xs x pass = let parts = and_parts _ _ (sym (list_all-append test xs (x ∷ [])) ∙ pass) in
    (parts.0, (and_parts _ _ parts.1).0)

-- if some element passes, one before the last does, or the last one does
pub any_before_last : {X : Type 0} (test : X → Bool) (xs : List X) (x : X) → list_any test (xs ++ x ∷ []) ≡ true →
    (list_any test xs || test x) ≡ true
any_before_last test xs x passes =
    ap (λ b. list_any test xs || b) (sym (or-false (test x))) ∙ sym (list_any-append test xs (x ∷ [])) ∙ passes

-- if some element passes after one was put in, one of the others does, or that one does
pub any_inserted : {X : Type 0} (test : X → Bool) (xs : List X) (i : ℕ) (x : X) → list_any test (insert xs i x) ≡ true →
    (list_any test xs || test x) ≡ true
any_inserted test [] zero x passes = sym (or-false (test x)) ∙ passes
any_inserted test [] (suc i) x passes = sym (or-false (test x)) ∙ passes
any_inserted test (y ∷ ys) zero x passes = turn (test x) (test y || list_any test ys) passes
  where
    -- of two tests either may stand first
    turn : (a b : Bool) → (a || b) ≡ true → (b || a) ≡ true
    turn true true one_holds = refl
    turn true false one_holds = refl
    turn false true one_holds = refl
    turn false false one_holds = one_holds
any_inserted test (y ∷ ys) (suc i) x passes = ⊎_elim
    -- the test passes for the first element, for another one of the list, or for what is inserted
    (λ (of_first : test y ≡ true). or_left _ _ (or_left _ _ of_first))
    (λ (of_rest : list_any test (insert ys i x) ≡ true). ⊎_elim
    (λ (of_others : list_any test ys ≡ true). or_left _ _ (or_right (test y) _ of_others))
    (λ (of_inserted : test x ≡ true). or_right _ _ of_inserted)
    (or_cases _ _ (any_inserted test ys i x of_rest)))
    (or_cases (test y) (list_any test (insert ys i x)) passes)

-- what follows from either of two tests follows from their disjunction
pub carried : (a b c : Bool) → (a || b) ≡ true → (a ≡ true → c ≡ true) → (b ≡ true → c ≡ true) → c ≡ true
carried a b c either from_a from_b = ⊎_elim from_a from_b (or_cases a b either)

-- ---- one cube

-- a literal holds if the variable's number is between its low and its high
pub held : (n : ℕ → ℕ) (l : Literal) → l.low ≤ n l.variable → n l.variable ≤ l.high → holds_at n l ≡ true
held n l above_low below_high =
    and_from _ _ (le-leb l.low (n l.variable) above_low) (le-leb (n l.variable) l.high below_high)

-- if a literal holds, the number of its variable is at least the low
pub held_low : (n : ℕ → ℕ) (l : Literal) → holds_at n l ≡ true → l.low ≤ n l.variable
held_low n l holds = leb-true l.low (n l.variable) (and_parts _ _ holds).0

-- if a literal holds, the number of its variable is at most the high
pub held_high : (n : ℕ → ℕ) (l : Literal) → holds_at n l ≡ true → n l.variable ≤ l.high
held_high n l holds = leb-true (n l.variable) l.high (and_parts (nat_le l.low (n l.variable)) _ holds).1

-- the number of one variable is at most the sum of all
pub counted : (n : ℕ → ℕ) (count v : ℕ) → v < count → n v ≤ sum_by n (numbers_below count)
counted n count v below = le-sum_by n (numbers_below count) v (Contains-numbers count v below)

-- If numbers outside the first i literals have at least a faults, and those in which the literal at place i fails have
-- at least r, then those outside the first i + 1 have at least the lesser of a and r.
pub outside_more : (ls : List Literal) (i : ℕ) (d : Literal) (a r : ℕ) → i < length ls → NeedsOutside (take i ls) a →
    (0 < r → (get_or ls i d).variable < 128)
    → ((n : ℕ → ℕ) → holds_at n (get_or ls i d) ≡ false → r ≤ n (get_or ls i d).variable) →
    NeedsOutside (take (i + 1) ls) (min a r)
outside_more ls i d a r inside needs_before small needs_last count is_128 n outside = ⊎_elim
    -- all literals before hold, so the last one doesn't
    (λ (all_hold : list_all (holds_at n) (take i ls) ≡ true).
    by_last (false_from_ne_true _
    (λ last_holds. both_ways _ outside (all_one_more (holds_at n) ls i d inside all_hold last_holds))))
    -- one before doesn't hold, so there are at least a faults
    (λ (some_fails : list_all (holds_at n) (take i ls) ≡ false). let enough = needs_before count is_128 n some_fails in
    omega arith)
    (cases_Bool (list_all (holds_at n) (take i ls)))
  where
    -- if the last literal doesn't hold, its variable has at least r faults or is a value
    by_last : holds_at n (get_or ls i d) ≡ false → min a r ≤ sum_by n (numbers_below count)
    by_last fails = ⊎_elim
        (λ (positive : 0 < r). let is_count = small positive in
        let enough = needs_last n fails in
        let counted_in = counted n count (get_or ls i d).variable (omega arith) in
        omega arith)
        (λ (none : r ≤ 0). omega arith)
        (cases_lt 0 r)

-- if numbers that none of the first i cubes matches have at least a faults, and those outside the cube at place i at
-- least r, then those that none of the first i + 1 matches have at least the greater of a and r
pub each_more : (cubes : List (List Literal)) (i : ℕ) (d : List Literal) (a r : ℕ) → i < length cubes →
    Needs (take i cubes) a →
    NeedsOutside (get_or cubes i d) r →
    Needs (take (i + 1) cubes) (max a r)
-- if none of the first i + 1 cubes is matched, none of the first i is, and the cube at place i isn't
each_more cubes i d a r inside needs_before needs_last count is_128 n values unmatched =
    let enough_before =
    needs_before count is_128 n values
    (false_from_ne_true _ (λ matched. both_ways _ unmatched (any_of_before (matches_at n) cubes i d inside matched))) in
    let enough_last = needs_last count is_128 n
    (false_from_ne_true _ (λ matched. both_ways _ unmatched (any_of_last (matches_at n) cubes i d inside matched))) in
    omega arith

-- numbers that no cube of a list matches have at least 0 faults
pub needs_nothing : (cubes : List (List Literal)) → Needs cubes 0
needs_nothing cubes count is_128 n values unmatched = omega arith

-- ---- a step of one variable

-- after a step, the variable's number is one less, and stays 0 if it is 0
pub after_here : (v : ℕ) (n : ℕ → ℕ) → after v n v ≡ n v - 1
after_here v n = cond-true (v == v) (n v - 1) (n v) (eq-eqb v v refl)

-- after a step, the numbers of other variables are the same
pub after_other : (v u : ℕ) (n : ℕ → ℕ) → v ≢ u → after v n u ≡ n u
after_other v u n other = cond-false (v == u) (n u - 1) (n u) (ne_eqb v u other)

-- no number grows by a step
after_le : (v u : ℕ) (n : ℕ → ℕ) → after v n u ≤ n u
-- one is taken from the variable itself; the numbers of others stay
after_le v u n = ⊎_elim
    (λ (same : v ≡ u). let number_is = cond-true (v == u) (n u - 1) (n u) (eq-eqb v u same) in omega arith)
    (λ (other : v ≡ u → ⊥). let same_number = after_other v u n other in omega arith)
    (cases_eq v u)

-- after a step values are still at most 1
after_values : (v : ℕ) (n : ℕ → ℕ) → AreValues n → AreValues (after v n)
after_values v n values u is_value = let not_more = after_le v u n in let at_most_1 = values u is_value in omega arith

-- the sum of the numbers doesn't grow by a step
after_sum : (v : ℕ) (n : ℕ → ℕ) (count : ℕ) → sum_by (after v n) (numbers_below count) ≤ sum_by n (numbers_below count)
after_sum v n count = sum_by-le_each (after v n) n (numbers_below count) (λ u member. after_le v u n)

-- if the variable had a fault, the sum is one less
after_less : (v : ℕ) (n : ℕ → ℕ) (count : ℕ) → v < count → 1 ≤ n v →
    sum_by (after v n) (numbers_below count) + 1 ≡ sum_by n (numbers_below count)
after_less v n count is_count some =
    let sum_is = sum_changed (after v n) n count v is_count
    (λ u other. after_other v u n (λ equal. other (sym equal))) in
    let one_less = after_here v n in
    omega arith

-- if numbers after a step match a cube of the rest, the numbers before it match a cube of the list
abbrev pub Steps : List (List Literal) → ℕ → Bool → ℕ → List (List Literal) → Type 0
Steps cubes v more budget rest =
    (n : ℕ → ℕ) → IsStep v more budget n → is_any_at (after v n) rest ≡ true → is_any_at n cubes ≡ true

-- a step to 0, or to one less, leaves values at most 1 and as many faults as the budget allows
step_from : (v : ℕ) (more : Bool) (budget count : ℕ) (n : ℕ → ℕ) → count ≡ 128 → AreValues n →
    (more ≡ false → n v ≡ 0) → (more ≡ true → 1 ≤ n v) →
    sum_by (after v n) (numbers_below count) ≤ budget →
    IsStep v more budget n
step_from v more budget count n is_128 values off on few = record {
  values = values;
  zero = off;
  some = on;
  few = λ u is_count. let within_sum = counted (after v n) count u (omega arith) in omega arith;
}

-- after the step the numbers still match no cube of the rest, so they take the faults that the rest needs
by_step : (cubes rest : List (List Literal)) (v : ℕ) (more : Bool) (budget r count : ℕ) (n : ℕ → ℕ) →
    Steps cubes v more budget rest → Needs rest r → count ≡ 128 → AreValues n →
    IsStep v more budget n →
    is_any_at n cubes ≡ false → r ≤ sum_by (after v n) (numbers_below count)
by_step cubes rest v more budget r count n keeps needs is_128 values is unmatched =
    needs count is_128 (after v n) (after_values v n values)
    (false_from_ne_true _ (λ matched. both_ways _ unmatched (keeps n is matched)))

-- if the variable is 0, a list needs as many faults as the rest after the step that says so
pub without_from : (cubes rest : List (List Literal)) (v budget r : ℕ) → Steps cubes v false budget rest →
    Needs rest r →
    NeedsWithout cubes v budget r
without_from cubes rest v budget r keeps needs count is_128 n values none few unmatched =
    let sum_less = after_sum v n count in
    let needed = by_step cubes rest v false budget r count n keeps needs is_128 values
    (step_from v false budget count n is_128 values (λ same. none) (λ wrong. cc) (omega arith)) unmatched in
    omega arith

-- a value is false or true, so the lesser of what the two steps need is needed
pub value_from : (cubes off on : List (List Literal)) (v budget a b r : ℕ) → 128 ≤ v → Steps cubes v false budget off →
    Needs off a → Steps cubes v true budget on → Needs on b → r ≤ a → r ≤ b →
    r ≤ budget + 1 → Needs cubes r
-- by whether 0 is below `n v` and whether `budget` is below `sum_by n (numbers_below count)`
value_from cubes off on v budget a b r large keeps_off needs_off keeps_on needs_on below_a below_b below_budget count
    is_128 n values unmatched = ⊎_elim
    -- more faults than the budget
    (λ (over : budget < sum_by n (numbers_below count)). omega arith)
    (λ (within : sum_by n (numbers_below count) ≤ budget).
    let sum_less = after_sum v n count in
    ⊎_elim
    -- the value is true: the search of what the cubes ask then bounds the faults
    (λ (is_true : 0 < n v). let needed = by_step cubes on v true budget b count n keeps_on needs_on is_128 values
    (step_from v true budget count n is_128 values (λ wrong. cc) (λ same. omega arith) (omega arith)) unmatched in
    omega arith)
    -- the value is false: the other search does
    (λ (is_false : n v ≤ 0). let needed = by_step cubes off v false budget a count n keeps_off needs_off is_128 values
    (step_from v false budget count n is_128 values (λ same. omega arith) (λ wrong. cc) (omega arith)) unmatched in
    omega arith)
    (cases_lt 0 (n v)))
    (cases_lt budget (sum_by n (numbers_below count)))

-- if the budget has no room for a fault, what is needed without one, and at most 1, is needed
pub count_without : (cubes : List (List Literal)) (v budget w r : ℕ) → v < 128 → NeedsWithout cubes v budget w → r ≤ w →
    r ≤ 1 → Needs cubes r
-- by whether 0 is below `sum_by n (numbers_below count)`
count_without cubes v budget w r small needs below_w below_1 count is_128 n values unmatched = ⊎_elim
    (λ (some_faults : 0 < sum_by n (numbers_below count)). omega arith)
    (λ (no_fault : sum_by n (numbers_below count) ≤ 0).
    let counted_in = counted n count v (omega arith) in
    let needed = needs count is_128 n values (omega arith) (omega arith) unmatched in
    omega arith)
    (cases_lt 0 (sum_by n (numbers_below count)))

-- a process has no fault or some, so the lesser of what is needed without one and with one is needed
pub count_from : (cubes more : List (List Literal)) (v budget w most b r : ℕ) → v < 128 →
    NeedsWithout cubes v budget w → most ≤ budget → most < w → 0 < most →
    Steps cubes v true (most - 1) more →
    Needs more b → r ≤ b + 1 → r ≤ most + 1 → Needs cubes r
-- by whether 0 is below `n v` and whether `most` is below `sum_by n (numbers_below count)`
count_from cubes more v budget w most b r small needs most_in_budget most_below_w some keeps needs_more below_b
    below_most count is_128 n values unmatched = ⊎_elim
    -- more faults than the budget allows
    (λ (over : most < sum_by n (numbers_below count)). omega arith)
    (λ (within : sum_by n (numbers_below count) ≤ most).
    ⊎_elim
    -- the count is above 0: one fault of it is taken, and the search goes on with one less
    (λ (some_of_v : 0 < n v).
    let one_less = after_less v n count (omega arith) (omega arith) in
    let needed = by_step cubes more v true (most - 1) b count n keeps needs_more is_128 values
    (step_from v true (most - 1) count n is_128 values (λ wrong. cc) (λ same. omega arith) (omega arith)) unmatched in
    omega arith)
    -- the count is 0
    (λ (none_of_v : n v ≤ 0). let needed = needs count is_128 n values (omega arith) (omega arith) unmatched in
    omega arith)
    (cases_lt 0 (n v)))
    (cases_lt most (sum_by n (numbers_below count)))

-- ---- parts without common variables

-- the numbers of the variables with this mark, and 0 for the others
abbrev kept_at : List Bool → Bool → (ℕ → ℕ) → ℕ → ℕ
kept_at marks wanted n v = cond (same_bool (get_or marks v false) wanted) (n v) 0

-- literals whose variables all have the mark hold for the kept numbers exactly if they hold for all numbers
same_all_at : (marks : List Bool) (wanted : Bool) (n : ℕ → ℕ) (ls : List Literal) →
    list_all (λ l. same_bool (get_or marks l.variable false) wanted) ls ≡ true →
    matches_at (kept_at marks wanted n) ls ≡ matches_at n ls
-- by induction on the literals
same_all_at marks wanted n [] marked = refl
same_all_at marks wanted n (l ∷ ls) marked =
    let parts = and_parts (same_bool (get_or marks l.variable false) wanted)
    (list_all (λ l. same_bool (get_or marks l.variable false) wanted) ls) marked in
    ap₂ ◌&&◌ (ap (λ x. nat_le l.low x && nat_le x l.high) (cond-true (same_bool (get_or marks l.variable false) wanted)
    (n l.variable) 0 parts.0)) (same_all_at marks wanted n ls parts.1)

-- of cubes whose variables all have the mark, one matches the kept numbers exactly if one matches all numbers
same_any_at : (marks : List Bool) (wanted : Bool) (n : ℕ → ℕ) (cubes : List (List Literal)) →
    AreMarked marks wanted cubes →
    is_any_at (kept_at marks wanted n) cubes ≡ is_any_at n cubes
-- by induction on the cubes
same_any_at marks wanted n [] marked = refl
same_any_at marks wanted n (c ∷ cs) marked = ap₂ ◌||◌ (same_all_at marks wanted n c
    (All-head (λ d. list_all (λ l. same_bool (get_or marks l.variable false) wanted) d ≡ true) c cs marked))
    (same_any_at marks wanted n cs
    (All-tail (λ d. list_all (λ l. same_bool (get_or marks l.variable false) wanted) d ≡ true) c cs marked))

-- values that are kept are still at most 1
kept_values : (marks : List Bool) (wanted : Bool) (n : ℕ → ℕ) → AreValues n → AreValues (kept_at marks wanted n)
kept_values marks wanted n values v is_value = one (same_bool (get_or marks v false) wanted)
  where
    -- a value is kept, or is 0
    one : (b : Bool) → cond b (n v) 0 ≤ 1
    one true = values v is_value
    one false = omega arith

-- the cubes of a part whose variables all have the mark need their faults of the kept numbers alone
of_part : (cubes part : List (List Literal)) (marks : List Bool) (wanted : Bool) (r count : ℕ) (n : ℕ → ℕ) →
    AreMarked marks wanted part →
    ((m : ℕ → ℕ) → is_any_at m part ≡ true → is_any_at m cubes ≡ true) → Needs part r
    → count ≡ 128 → AreValues n → is_any_at n cubes ≡ false → r ≤ sum_by (kept_at marks wanted n) (numbers_below count)
of_part cubes part marks wanted r count n marked keeps needs is_128 values unmatched =
    needs count is_128 (kept_at marks wanted n) (kept_values marks wanted n values)
    (same_any_at marks wanted n part marked ∙ false_from_ne_true _ (λ matched. both_ways _ unmatched (keeps n matched)))

-- the kept numbers of both marks add up to all
both_parts : (marks : List Bool) (n : ℕ → ℕ) (count : ℕ) →
    sum_by (kept_at marks true n) (numbers_below count) + sum_by (kept_at marks false n) (numbers_below count)
    ≡ sum_by n (numbers_below count)
both_parts marks n count = sym (sum_by-add (kept_at marks true n) (kept_at marks false n) (numbers_below count))
    ∙ same_sum_by (λ v. kept_at marks true n v + kept_at marks false n v) n (numbers_below count)
    (λ v member. one (get_or marks v false) (n v))
  where
    -- each number is kept by one of the two marks
    one : (b : Bool) (x : ℕ) → cond (same_bool b true) x 0 + cond (same_bool b false) x 0 ≡ x
    one true x = omega arith
    one false x = omega arith

-- if the two parts have no variable in common, the list needs the sum of what they need
pub parts_from : (cubes first others : List (List Literal)) (marks : List Bool) (a b r : ℕ) →
    AreMarked marks true first →
    AreMarked marks false others →
    ((m : ℕ → ℕ) → is_any_at m first ≡ true → is_any_at m cubes ≡ true)
    → ((m : ℕ → ℕ) → is_any_at m others ≡ true → is_any_at m cubes ≡ true) → Needs first a → Needs others b →
    r ≤ a + b → Needs cubes r
-- each part needs its faults of the variables with its mark, and the two sums are all faults
parts_from cubes first others marks a b r first_marked others_marked first_in others_in needs_first needs_others
    below_sum count is_128 n values unmatched =
    let first_faults = of_part cubes first marks true a count n first_marked first_in needs_first is_128 values
    unmatched in
    let others_faults = of_part cubes others marks false b count n others_marked others_in needs_others is_128 values
    unmatched in
    let sum_is = both_parts marks n count in
    omega arith

-- if numbers that no cube of a list matches have at least a faults, they have at least any lesser number b
pub needs_fewer : (cubes : List (List Literal)) (a b : ℕ) → b ≤ a → Needs cubes a → Needs cubes b
needs_fewer cubes a b no_more needs count is_128 n values unmatched =
    let needed = needs count is_128 n values unmatched in omega arith

-- if a cube of the list matches what one of the part does, numbers that none of the list matches have the faults that
-- the part needs
pub needs_by : (cubes part : List (List Literal)) (r : ℕ) →
    ((m : ℕ → ℕ) → is_any_at m part ≡ true → is_any_at m cubes ≡ true) → Needs part r → Needs cubes r
needs_by cubes part r keeps needs count is_128 n values unmatched =
    needs count is_128 n values (false_from_ne_true _ (λ matched. both_ways _ unmatched (keeps n matched)))

-- ---- cubes without common variables

-- if no cube of the list is matched, the marked variables have at least r faults
abbrev pub NeedsOfMarked : List (List Literal) → List Bool → ℕ → Type 0
NeedsOfMarked cubes marks r = (count : ℕ) → count ≡ 128 → (n : ℕ → ℕ) → AreValues n → is_any_at n cubes ≡ false →
    r ≤ sum_by (kept_at marks true n) (numbers_below count)

-- the numbers of variables that are marked later and weren't before
abbrev new_at : List Bool → List Bool → (ℕ → ℕ) → ℕ → ℕ
new_at marks later n v = cond (same_bool (get_or later v false) true && same_bool (get_or marks v false) false) (n v) 0

-- literals on variables that are marked now and weren't before hold for the new numbers if they hold for all
same_new_at : (marks later : List Bool) (n : ℕ → ℕ) (ls : List Literal) →
    list_all (λ l. same_bool (get_or marks l.variable false) false) ls ≡ true →
    list_all (λ l. same_bool (get_or later l.variable false) true) ls ≡ true →
    matches_at (new_at marks later n) ls ≡ matches_at n ls
-- by induction on the literals
same_new_at marks later n [] unmarked marked = refl
same_new_at marks later n (l ∷ ls) unmarked marked =
    let unmarked_parts = and_parts (same_bool (get_or marks l.variable false) false)
    (list_all (λ m. same_bool (get_or marks m.variable false) false) ls) unmarked in
    let marked_parts = and_parts (same_bool (get_or later l.variable false) true)
    (list_all (λ m. same_bool (get_or later m.variable false) true) ls) marked in
    ap₂ ◌&&◌ (ap (λ x. nat_le l.low x && nat_le x l.high)
    (cond-true (same_bool (get_or later l.variable false) true && same_bool (get_or marks l.variable false) false)
    (n l.variable) 0 (and_from _ _ marked_parts.0 unmarked_parts.0)))
    (same_new_at marks later n ls unmarked_parts.1 marked_parts.1)

-- a variable that was marked before, and one that is new, are both marked now
both_marks : (was now : Bool) (x : ℕ) → (was ≡ true → now ≡ true) →
    cond (same_bool was true) x 0 + cond (same_bool now true && same_bool was false) x 0 ≤ cond (same_bool now true) x 0
both_marks true true x kept = omega arith
both_marks true false x kept = cc (kept refl)
both_marks false true x kept = omega arith
both_marks false false x kept = omega arith

-- a cube without marked variables adds what it needs, and marks its variables
pub marked_more : (cubes : List (List Literal)) (c : List Literal) (marks later : List Bool) (a b r : ℕ) →
    NeedsOfMarked cubes marks a →
    ((n : ℕ → ℕ) → is_any_at n cubes ≡ false → matches_at n c ≡ false) → NeedsOutside c b
    → list_all (λ l. same_bool (get_or marks l.variable false) false) c ≡ true →
    ((v : ℕ) → get_or marks v false ≡ true → get_or later v false ≡ true) →
    list_all (λ l. same_bool (get_or later l.variable false) true) c ≡ true → r ≤ a + b
    → NeedsOfMarked cubes later r
-- What the marked variables need, and what the cube needs of its own variables, which are new, are together at most
-- what the variables marked later have.
marked_more cubes c marks later a b r marked_need one cube_needs unmarked kept marked below_sum count is_128 n values
    off =
    let of_marked = marked_need count is_128 n values off in
    let of_cube = cube_needs count is_128 (new_at marks later n)
    (same_new_at marks later n c unmarked marked ∙ one n off) in
    let sum_is = sum_by-add (kept_at marks true n) (new_at marks later n) (numbers_below count) in
    let sum_below = sum_by-le_each (λ v. kept_at marks true n v + new_at marks later n v) (kept_at later true n)
    (numbers_below count)
    (λ v member. both_marks (get_or marks v false) (get_or later v false) (n v) (kept v)) in
    omega arith

-- the faults that the marked variables need are needed in all, since those of the other variables only add to them
pub marked_all : (cubes : List (List Literal)) (marks : List Bool) (r : ℕ) → NeedsOfMarked cubes marks r → Needs cubes r
marked_all cubes marks r marked_need count is_128 n values off =
    let needed = marked_need count is_128 n values off in
    let sum_below = sum_by-le_each (kept_at marks true n) n (numbers_below count)
    (λ v member. one (same_bool (get_or marks v false) true) (n v)) in
    omega arith
  where
    -- a number is kept, or is 0
    one : (b : Bool) (x : ℕ) → cond b x 0 ≤ x
    one true x = omega arith
    one false x = omega arith

-- if no cube of a list is matched, the one at a place isn't
pub one_is_off : (cubes : List (List Literal)) (i : ℕ) (d : List Literal) → i < length cubes → (n : ℕ → ℕ) →
    is_any_at n cubes ≡ false →
    matches_at n (get_or cubes i d) ≡ false
one_is_off cubes i d inside n off =
    from_any_false (matches_at n) cubes (get_or cubes i d) off (Contains-get_or cubes i d inside)

-- marking a variable leaves the marks of others
pub still_marked : (marks : List Bool) (i v : ℕ) → get_or marks v false ≡ true →
    get_or (slice_set marks i true) v false ≡ true
-- by induction on the list
still_marked [] i v marked = cc
still_marked (m ∷ ms) zero zero marked = refl
still_marked (m ∷ ms) zero (suc v) marked = marked
still_marked (m ∷ ms) (suc i) zero marked = marked
still_marked (m ∷ ms) (suc i) (suc v) marked = still_marked ms i v marked

-- a mark that is set at place i is there
pub now_marked : (marks : List Bool) (i : ℕ) → i < length marks → get_or (slice_set marks i true) i false ≡ true
now_marked [] i inside = absurd (omega arith)
now_marked (m ∷ ms) zero inside = refl
now_marked (m ∷ ms) (suc i) inside = now_marked ms i (omega arith)

-- if all variables of a cube are marked, they still are with more marks
pub all_still_marked : (marks later : List Bool) (ls : List Literal) →
    ((v : ℕ) → get_or marks v false ≡ true → get_or later v false ≡ true) →
    list_all (λ l. same_bool (get_or marks l.variable false) true) ls ≡ true →
    list_all (λ l. same_bool (get_or later l.variable false) true) ls ≡ true
all_still_marked marks later [] kept marked = refl
all_still_marked marks later (l ∷ ls) kept marked =
    let parts = and_parts (same_bool (get_or marks l.variable false) true)
    (list_all (λ m. same_bool (get_or marks m.variable false) true) ls) marked in
    and_from _ _ (is_marked (get_or later l.variable false)
    (kept l.variable (was_marked (get_or marks l.variable false) parts.0)))
    (all_still_marked marks later ls kept parts.1)
  where
    -- if a mark is the same as true, it is true
    was_marked : (b : Bool) → same_bool b true ≡ true → b ≡ true
    was_marked true same = refl
    was_marked false same = cc

    -- if a mark is true, it is the same as true
    is_marked : (b : Bool) → b ≡ true → same_bool b true ≡ true
    is_marked true is_true = refl
    is_marked false is_true = cc
