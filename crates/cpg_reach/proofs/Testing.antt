-- A guard of a process, reduced and ordered, tests just the conditions that decide the process in some scenario.
use Rattle.std.proofs.Common.{ℕ, ◌+◌, ◌<◌, ◌≤◌, ◌≡◌, Bool, true, false, if◌then◌else◌, List, [], ◌∷◌, ◌++◌, length}
use Rattle.std.proofs.Common.{get_or, set, map, replicate, length-append, Contains, refl, sym, ap, ◌∙◌, subst}
use Rattle.std.proofs.Common.{⊎_elim, arith}
use Rattle.std.proofs.lemmas.Bool.{cases_Bool, cases_lt}
use Rattle.std.specs.List.{list_any}
use Rattle.std.proofs.lemmas.List.{length-set, get_or-set_same, get_or-set_other, length-replicate, get_or_append_left}
use Rattle.std.proofs.Math.Seq.{get_or-append_seam}
use Rattle.std.proofs.lemmas.List.Elements.{Contains-append_cases, Contains-append_left, Contains-append_right}
use Rattle.cpg_base.specs.Numbers.{numbers_below}
use Rattle.cpg_base.specs.Graph.{Graph, process_count, condition_count, process_of, value_variable}
use Rattle.cpg_base.proofs.Lists.{Contains-first, Contains-rest, Contains-cases, Contains-nil, Contains-map}
use Rattle.cpg_base.proofs.Lists.{Contains-map_parts, Contains-filter, Contains-filter_parts, Contains-numbers}
use Rattle.cpg_base.proofs.Lists.{numbers-Contains, list_any_true, list_any_parts, same_truth}
use Rattle.cpg_order.specs.Urgency.{IsUrgencyOrder}
use Rattle.cpg_base.specs.Order.{place}
use Rattle.cpg_order.specs.Deciding.{outcomes, decides, conditions_of}
use Rattle.cpg_order.specs.Guard.{Guard, Leaf, Test, way, IsOrderedFrom, IsGuardOf}
use Rattle.cpg_order.specs.Reach.{is_in}
use Rattle.cpg_order.proofs.Along.{is_in_from, from_is_in}
use Rattle.cpg_order.proofs.Outcomes.{Contains-outcomes, length_of_outcome}
use Rattle.cpg_order.proofs.GuardLaw.{way_is_deciding}
use Rattle.cpg_rules.specs.Guards.{Guards, tree_of}
use Rattle.cpg_rules.specs.Admission.{IsAdmitted}
use Rattle.cpg_order.specs.Elements.{SameElements}
use Rattle.cpg_reach.specs.Variables.{Adds}
use Rattle.cpg_rules.specs.Trees.{TestsBelow}
use Rattle.cpg_reach.specs.Tested.{tested, tested_values, AreDecidingUntil}

-- a condition that an outcome's way tests is one that the guard tests
way_is_tested : (t : Guard) (o : List Bool) (c : ℕ) → Contains (way t o) c → Contains (tested t) c
-- by induction on the guard: the first test, or one on the side that the value picks
way_is_tested (Leaf a) o c there = there
way_is_tested (Test d off on) o c there = ⊎_elim
    (λ (e : d ≡ c). subst (Contains (tested (Test d off on))) e (Contains-first d (tested off ++ tested on)))
    (λ (i : Contains (if get_or o d false then way on o else way off o) c).
    Contains-rest d (tested off ++ tested on) c (⊎_elim
    (λ (v : get_or o d false ≡ true). Contains-append_right (tested off) (tested on) c
    (way_is_tested on o c (subst (λ w. Contains (if w then way on o else way off o) c) v i)))
    (λ (v : get_or o d false ≡ false). Contains-append_left (tested off) (tested on) c
    (way_is_tested off o c (subst (λ w. Contains (if w then way on o else way off o) c) v i)))
    (cases_Bool (get_or o d false))))
    (Contains-cases d _ c there)

module _ (g : Graph) (order : List ℕ) where
  -- the place of a condition's process
  abbrev rank : ℕ → ℕ
  rank c = place order (process_of g c)

  -- some outcome agrees with b on conditions whose processes stand before the place k, and its way tests c
  record Passes (k : ℕ) (b : List Bool) (t : Guard) (c : ℕ) : Type 0 where
    -- the outcome
    outcome : List Bool
    -- one value for each condition
    count : length outcome ≡ condition_count g
    -- it agrees with b there
    agrees : (d : ℕ) → d < condition_count g → rank d < k → get_or outcome d false ≡ get_or b d false
    -- its way tests c
    passes : Contains (way t outcome) c

  -- the way through a test of d goes on to the side that d's value picks
  way_at : (d : ℕ) (off on : Guard) (o : List Bool) (v : Bool) → get_or o d false ≡ v →
      way (Test d off on) o ≡ d ∷ (if v then way on o else way off o)
  way_at d off on o v is = ap (λ w. d ∷ (if w then way on o else way off o)) is

  -- if the side that v picks tests c for an outcome like b with v for d, so does the whole guard for one like b
  through : (k d : ℕ) (b : List Bool) (off on : Guard) (v : Bool) (c : ℕ) → d < condition_count g → k ≤ rank d →
      length b ≡ condition_count g
      → Passes (rank d + 1) (set b d v) (if v then on else off) c → Passes k b (Test d off on) c
  -- the outcome agrees with b below k, and has v for d, so its way goes on to that side
  through k d b off on v c within at_most_rank same_length passes_side = record {
    outcome = passes_side.outcome;
    count = passes_side.count;
    agrees =
        λ condition below inside. passes_side.agrees condition below (omega arith)
        ∙ get_or-set_other b d condition v false (λ same. let same_rank = ap rank same in omega arith);
    passes = subst (λ w. Contains w c)
        (sym (way_at d off on passes_side.outcome v (passes_side.agrees d within (omega arith)
        ∙ get_or-set_same b d v false (omega arith))))
        (arm v passes_side.outcome passes_side.passes);
  }
    where
      -- what is on the way behind the test of d is on the whole way
      arm : (w : Bool) (o : List Bool) → Contains (way (if w then on else off) o) c →
          Contains (d ∷ (if w then way on o else way off o)) c
      arm true o there = Contains-rest d (way on o) c there
      arm false o there = Contains-rest d (way off o) c there

  -- if the guard tests c, some outcome that agrees with b before k has c on its way
  tested_passes : (k : ℕ) (t : Guard) (b : List Bool) (c : ℕ) → IsOrderedFrom g order k t →
      length b ≡ condition_count g → Contains (tested t) c → Passes k b t c
  -- by induction on the guard: b itself passes the first test; for a test of one side, b is given the value that leads
  -- there
  tested_passes k (Leaf a) b c ordered is there = absurd (Contains-nil c there)
  tested_passes k (Test d off on) b c ordered is there = ⊎_elim
      (λ (e : d ≡ c). record {
        outcome = b;
        count = is;
        agrees = λ e h j. refl;
        passes = subst (Contains (way (Test d off on) b)) e (Contains-first d _);
      })
      (λ (j : Contains (tested off ++ tested on) c). ⊎_elim
      (λ (m : Contains (tested off) c). through k d b off on false c ordered.0 ordered.1 is
      (tested_passes (rank d + 1) off (set b d false) c ordered.2 (length-set b d false ∙ is) m))
      (λ (m : Contains (tested on) c). through k d b off on true c ordered.0 ordered.1 is
      (tested_passes (rank d + 1) on (set b d true) c ordered.3 (length-set b d true ∙ is) m))
      (Contains-append_cases (tested off) (tested on) c j))
      (Contains-cases d (tested off ++ tested on) c there)

  -- a condition that is tested is one of the graph
  tested_within : (k : ℕ) (t : Guard) (c : ℕ) → IsOrderedFrom g order k t → Contains (tested t) c →
      c < condition_count g
  -- by induction on the guard
  tested_within k (Leaf a) c ordered there = absurd (Contains-nil c there)
  tested_within k (Test d off on) c ordered there = ⊎_elim
      (λ (e : d ≡ c). subst (λ z. z < condition_count g) e ordered.0)
      (λ (j : Contains (tested off ++ tested on) c). ⊎_elim
      (λ (m : Contains (tested off) c). tested_within (rank d + 1) off c ordered.2 m)
      (λ (m : Contains (tested on) c). tested_within (rank d + 1) on c ordered.3 m)
      (Contains-append_cases (tested off) (tested on) c j))
      (Contains-cases d (tested off ++ tested on) c there)

  -- given: the guard of a process
  module _ (urgency : IsUrgencyOrder g order) (p : ℕ) (t : Guard) (guard : IsGuardOf g order p t) where
    -- whether a condition decides the process in some outcome
    abbrev some_decides : ℕ → Bool
    some_decides c = list_any (λ o. decides g o p c) (outcomes (condition_count g))

    -- a condition that the guard tests decides the process in some scenario: in the one on whose way it is
    from_tested : (c : ℕ) → Contains (tested t) c → Contains (conditions_of g p) c
    -- an outcome whose way tests c is found, and what is on its way decides p in it
    from_tested c is_tested =
        let passing = tested_passes 0 t (replicate (condition_count g) false) c guard.ordered
        (length-replicate (condition_count g) false) is_tested in
        let within = tested_within 0 t c guard.ordered is_tested in
        Contains-filter some_decides (numbers_below (condition_count g)) c
        (list_any_true (λ o. decides g o p c) (outcomes (condition_count g)) passing.outcome
        (Contains-outcomes (condition_count g) passing.outcome passing.count)
        ((way_is_deciding g order urgency p passing.outcome passing.count t guard c within).0 passing.passes))
        (Contains-numbers (condition_count g) c within)

    -- a condition that decides the process in some outcome is tested on that outcome's way
    to_tested : (c : ℕ) → Contains (conditions_of g p) c → Contains (tested t) c
    to_tested c there =
        let kept = Contains-filter_parts some_decides (numbers_below (condition_count g)) c there in
        let outcome = list_any_parts (λ o. decides g o p c) (outcomes (condition_count g)) kept.1 in
        way_is_tested t outcome.0 c
        ((way_is_deciding g order urgency p outcome.0 (length_of_outcome (condition_count g) outcome.0 outcome.1) t
        guard c (numbers-Contains (condition_count g) c kept.0)).1 outcome.2)

    -- the variables of values of one list are among those of the other
    values_moved : (xs ys : List ℕ) (v : ℕ) → ((c : ℕ) → Contains xs c → Contains ys c) →
        is_in (map value_variable xs) v ≡ true →
        is_in (map value_variable ys) v ≡ true
    values_moved xs ys v moved there =
        let from = Contains-map_parts value_variable xs v (from_is_in (map value_variable xs) v there) in
        is_in_from (map value_variable ys) v
        (subst (Contains (map value_variable ys)) from.2 (Contains-map value_variable ys from.0 (moved from.0 from.1)))

    -- so the values that the guard tests are those of the conditions that decide the process
    pub tests_are_deciding : SameElements (tested_values t) (map value_variable (conditions_of g p))
    tests_are_deciding v = same_truth _ _ (values_moved (tested t) (conditions_of g p) v from_tested)
        (values_moved (conditions_of g p) (tested t) v to_tested)

-- ---- one process after another

-- a guard that tests conditions below n tests conditions below m, if n is no greater
pub tests_below : (n m : ℕ) (t : Guard) → n ≤ m → TestsBelow n t → TestsBelow m t
-- by induction on the guard
tests_below n m (Leaf a) at_most h = tt
tests_below n m (Test c off on) at_most h = (
  omega (arith, h.0),
  tests_below n m off at_most h.1,
  tests_below n m on at_most h.2,
)

-- before the first process there are no sets
pub deciding_first : (g : Graph) → AreDecidingUntil g 0 []
deciding_first g = record { count = refl; each = λ p l. absurd (omega arith) }

-- with the values that decide process n put behind those so far, there is a set for one process more
pub deciding_next : (g : Graph) (n : ℕ) (values : List (List ℕ)) (more : List ℕ) →
    SameElements more (map value_variable (conditions_of g n)) →
    AreDecidingUntil g n values →
    AreDecidingUntil g (n + 1) (values ++ more ∷ [])
-- a process below n keeps its set, and n has the new one
deciding_next g n values more same h = let counted = h.count in record {
  count = let pushed = length-append values (more ∷ []) in omega arith;
  each = λ p l v. ⊎_elim
      (λ (earlier : p < n). ap (λ xs. is_in xs v) (get_or_append_left values (more ∷ []) [] p (omega arith))
      ∙ h.each p earlier v)
      (λ (last : n ≤ p). let at_end : p ≡ length values = omega arith in let is_last : p ≡ n = omega arith in
      ap (λ xs. is_in xs v) (ap (λ i. get_or (values ++ more ∷ []) i []) at_end ∙ get_or-append_seam values more [] [])
      ∙ same v ∙ ap (λ q. is_in (map value_variable (conditions_of g q)) v) (sym is_last))
      (cases_lt p n);
}

-- ---- the trees of an admitted graph

-- given: an admitted graph
module _ (g : Graph) (order : List ℕ) (guards : Guards) (admitted : IsAdmitted g order guards) where
  -- its guards test conditions below 32
  pub tests_fit : (t : Guard) → TestsBelow guards.conditions t → TestsBelow 32 t
  tests_fit t tests = let few_guards = admitted.guards.conditions in
      let few_conditions = admitted.limits.few_conditions in
      tests_below guards.conditions 32 t (omega arith) tests

  -- a set with the values that a process's guard tests has those of the conditions that decide the process
  pub tree_decides : (p : ℕ) → p < process_count g → (t : Guard) → t ≡ tree_of guards p → (found : List ℕ) →
      Adds [] (tested_values t) found →
      SameElements found (map value_variable (conditions_of g p))
  tree_decides p within t is found adds v = adds v ∙ ap (λ u. is_in (tested_values u) v) is
      ∙ tests_are_deciding g order admitted.urgency p (tree_of guards p) (admitted.guards.trees p within) v
