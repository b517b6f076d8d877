-- The order of scenarios along an order of all processes is total, and so at most one scenario is the least that has a
-- fact.
use Rattle.std.proofs.Common.{ℕ, ◌<◌, ◌≤◌, ◌≡◌, true, false, List, [], ◌∷◌, ◌++◌, length, get_or, flat_map, Contains}
use Rattle.std.proofs.Common.{Option, Some, None, arith, refl, sym, ap₂, ◌∙◌, subst, ⊎_elim, inl, inr}
use Rattle.std.proofs.Common.{IsPermutation, ext_get_or}
use Rattle.std.proofs.lemmas.Bool.{cases_lt}
use Rattle.std.proofs.lemmas.List.{get_or_past}
use Rattle.cpg_base.specs.Numbers.{numbers_below, is_below}
use Rattle.cpg_base.specs.Graph.{Graph, process_count, condition_count, condition_of, process_of, value_variable}
use Rattle.cpg_base.specs.Graph.{IsVariable}
use Rattle.cpg_base.proofs.Lists.{Contains-cases, Contains-nil}
use Rattle.cpg_base.proofs.Items.{process_of_below}
use Rattle.cpg_base.proofs.Below.{not_below-cons, below_irreflexive, below_transitive, below_one_way, below_total}
use Rattle.cpg_base.proofs.Below.{not_below_transitive}
use Rattle.cpg_base.specs.Scenario.{Scenario, IsScenario, fault_of, number_of, number_of_value, IsLeast, value_in_key}
use Rattle.cpg_base.specs.Scenario.{key, is_before}
use Rattle.cpg_base.proofs.Places.{Contains-order}
use Rattle.cpg_base.proofs.ConditionProcesses.{condition_of_process_of, condition_of_below}
use Rattle.cpg_base.proofs.NumbersOf.{number_of-fault, number_of-value, one_value}

-- Two lists that are equal, with fronts of one length, have equal fronts and rests.
-- By induction on the fronts.
same_parts : {X : Type 0} (us vs xs ys : List X) → length us ≡ length vs → us ++ xs ≡ vs ++ ys → (us ≡ vs) × (xs ≡ ys)
same_parts [] [] xs ys same_length equal = (refl, equal)
same_parts [] (v ∷ vs) xs ys same_length equal = absurd (omega arith)
same_parts (u ∷ us) [] xs ys same_length equal = absurd (omega arith)
same_parts (u ∷ us) (v ∷ vs) xs ys same_length equal =
    let same_first : u ≡ v = cc in
    let same_tails : us ++ xs ≡ vs ++ ys = cc in
    let parts = same_parts us vs xs ys (omega arith) same_tails in
    (ap₂ ◌∷◌ same_first parts.0, parts.1)

-- If two flat maps are equal, and each element gives lists of one length, the lists are equal.
-- By induction on the list: what the first gives is the front of both.
same_pieces : {X Y : Type 0} (f h : X → List Y) (xs : List X) → ((x : X) → length (f x) ≡ length (h x)) →
    flat_map f xs ≡ flat_map h xs → (x : X) → Contains xs x → f x ≡ h x
same_pieces f h [] same_lengths equal x within = absurd (Contains-nil x within)
same_pieces f h (y ∷ ys) same_lengths equal x within =
    let parts = same_parts (f y) (h y) (flat_map f ys) (flat_map h ys) (same_lengths y) equal in
    ⊎_elim
    (λ (is_first : y ≡ x). subst (λ z. f z ≡ h z) is_first parts.0)
    (λ (in_rest : Contains ys x). same_pieces f h ys same_lengths parts.1 x in_rest)
    (Contains-cases y ys x within)

-- given: a graph, and an order of its processes
module _ (g : Graph) (order : List ℕ) where
  -- no scenario is before itself
  pub before_irreflexive : (s : Scenario) → is_before g order s s ≡ false
  before_irreflexive s = below_irreflexive (key g order s)

  -- if s is before t, and t is before u, s is before u
  pub before_transitive : (s t u : Scenario) → is_before g order s t ≡ true → is_before g order t u ≡ true →
      is_before g order s u ≡ true
  before_transitive s t u first second = below_transitive (key g order s) (key g order t) (key g order u) first second

  -- if s is before t, t isn't before s
  pub before_one_way : (s t : Scenario) → is_before g order s t ≡ true → is_before g order t s ≡ false
  before_one_way s t earlier = below_one_way (key g order s) (key g order t) earlier

  -- if t isn't before s, and u isn't before t, u isn't before s
  pub not_before_transitive : (s t u : Scenario) → is_before g order t s ≡ false → is_before g order u t ≡ false →
      is_before g order u s ≡ false
  not_before_transitive s t u first second =
      not_below_transitive (key g order s) (key g order t) (key g order u) first second

  -- if neither of two scenarios is before the other, they have the same key
  pub same_keys : (s t : Scenario) → is_before g order s t ≡ false → is_before g order t s ≡ false →
      key g order s ≡ key g order t
  same_keys s t not_earlier not_later = below_total (key g order s) (key g order t) not_earlier not_later

-- ---- what is nowhere more is not after

-- what a process gives to the key of a scenario: its fault count, and the value of its condition, if it has one
piece : Graph → Scenario → ℕ → List ℕ
piece g s p = fault_of s p ∷ value_in_key s.values (condition_of g p)

-- given: two scenarios of a graph
module _ (g : Graph) (s t : Scenario) where
  -- a key in which the value is no less is not below, if its rest is not below
  not_below_value : (o : Option ℕ) (xs ys : List ℕ) →
      ((c : ℕ) → o ≡ Some c → number_of_value (get_or s.values c false) ≤ number_of_value (get_or t.values c false)) →
      is_below xs ys ≡ false →
      is_below (value_in_key t.values o ++ xs) (value_in_key s.values o ++ ys) ≡ false
  not_below_value None xs ys no_less rests = rests
  not_below_value (Some c) xs ys no_less rests = not_below-cons (number_of_value (get_or t.values c false))
      (number_of_value (get_or s.values c false)) xs ys (no_less c refl) rests

  -- under every order, if no count and no value is higher in s than in t, t is not before s
  pub not_before_by_parts : (order : List ℕ) → ((p : ℕ) → fault_of s p ≤ fault_of t p) →
      ((p c : ℕ) → condition_of g p ≡ Some c → number_of_value (get_or s.values c false)
      ≤ number_of_value (get_or t.values c false)) → is_before g order t s ≡ false
  not_before_by_parts [] faults_le values_le = refl
  not_before_by_parts (p ∷ ps) faults_le values_le = not_below-cons (fault_of t p) (fault_of s p)
      (value_in_key t.values (condition_of g p) ++ key g ps t) (value_in_key s.values (condition_of g p) ++ key g ps s)
      (faults_le p)
      (not_below_value (condition_of g p) (key g ps t) (key g ps s) (values_le p)
      (not_before_by_parts ps faults_le values_le))

  -- If no variable has a higher number in s than in t, t is not before s.
  -- Number by number of the keys: a fault count, and then the value of the process's condition.
  pub not_before : (order : List ℕ) → process_count g ≤ 128 → IsScenario g s →
      ((v : ℕ) → IsVariable g v → number_of s v ≤ number_of t v) →
      is_before g order t s ≡ false
  not_before order few lawful no_more = not_before_by_parts order
      (λ p. ⊎_elim
      (λ (is_process : p < process_count g). let fault_le = no_more p (inl is_process) in
      let s_number = number_of-fault s p (omega arith) in
      let t_number = number_of-fault t p (omega arith) in
      omega arith)
      (λ (no_process : process_count g ≤ p). let count = lawful.faults in
      let no_fault = get_or_past s.faults p 0 (omega arith) in omega arith)
      (cases_lt p (process_count g)))
      (λ p c is_condition. let c_inside = condition_of_below g p c is_condition in
      let value_le = no_more (value_variable c) (inr (omega arith, omega arith)) in
      let s_number = number_of-value s c in let t_number = number_of-value t c in omega arith)

-- ---- scenarios with one key are one

-- given two scenarios with the same key
module _ (g : Graph) (order : List ℕ) (all : IsPermutation (numbers_below (process_count g)) order) (s t : Scenario)
    (s_lawful : IsScenario g s) (t_lawful : IsScenario g t)
    (same : key g order s ≡ key g order t) where
  -- each process gives the same piece to both keys
  same_piece : (p : ℕ) → p < process_count g → piece g s p ≡ piece g t p
  unfolding piece
  same_piece p inside =
      same_pieces (piece g s) (piece g t) order (λ q. of_one_length (fault_of s q) (fault_of t q) (condition_of g q))
      same p (Contains-order (process_count g) order all p inside)
    where
      -- the pieces of a process are as long in both
      of_one_length : (a b : ℕ) (o : Option ℕ) →
          length (a ∷ value_in_key s.values o) ≡ length (b ∷ value_in_key t.values o)
      of_one_length a b None = refl
      of_one_length a b (Some c) = refl

  -- both scenarios have the same fault counts
  same_faults : s.faults ≡ t.faults
  unfolding piece
  same_faults = ext_get_or 0 s.faults t.faults (s_lawful.faults ∙ sym t_lawful.faults) (λ p below.
      let count = s_lawful.faults in
      let same_at = same_piece p (omega arith) in cc)

  -- both scenarios have the same values
  same_values : s.values ≡ t.values
  unfolding piece
  same_values = ext_get_or false s.values t.values (s_lawful.values ∙ sym t_lawful.values) (λ c below.
      let count = s_lawful.values in
      let inside : c < condition_count g = omega arith in
      one_value (get_or s.values c false) (get_or t.values c false)
      (at_condition c (condition_of_process_of g c inside) (same_piece (process_of g c) (process_of_below g c inside))))
    where
      -- of two equal lists of two, the second elements are equal
      heads : (a b x y : ℕ) → a ∷ x ∷ [] ≡ b ∷ y ∷ [] → x ≡ y
      heads a b x y equal = cc

      -- the value of a condition is the second number of its process's piece
      at_condition : (c : ℕ) → condition_of g (process_of g c) ≡ Some c →
          fault_of s (process_of g c) ∷ value_in_key s.values (condition_of g (process_of g c)) ≡ fault_of t
          (process_of g c) ∷ value_in_key t.values (condition_of g (process_of g c))
          → number_of_value (get_or s.values c false) ≡ number_of_value (get_or t.values c false)
      at_condition c is equal = heads (fault_of s (process_of g c)) (fault_of t (process_of g c))
          (number_of_value (get_or s.values c false)) (number_of_value (get_or t.values c false))
          (subst (λ o. fault_of s (process_of g c) ∷ value_in_key s.values o
          ≡ fault_of t (process_of g c) ∷ value_in_key t.values o) is equal)

  -- two scenarios with the same key are one
  pub same_scenario : s ≡ t
  same_scenario = ap₂ (λ vs fs. let made : Scenario = record { values = vs; faults = fs } in
      made) same_values same_faults

-- two scenarios of which neither is before the other are the same
pub before_total : (g : Graph) (order : List ℕ) → IsPermutation (numbers_below (process_count g)) order →
    (s t : Scenario) → IsScenario g s → IsScenario g t →
    is_before g order s t ≡ false →
    is_before g order t s ≡ false → s ≡ t
before_total g order all s t s_lawful t_lawful s_not_first t_not_first =
    same_scenario g order all s t s_lawful t_lawful (same_keys g order s t s_not_first t_not_first)

-- ---- the least scenario of a fact

-- at most one scenario is the least with a fact
pub one_least : (g : Graph) (order : List ℕ) → IsPermutation (numbers_below (process_count g)) order →
    (fact : Scenario → Type 0) (s t : Scenario) → IsLeast g order fact s →
    IsLeast g order fact t →
    s ≡ t
one_least g order all fact s t s_least t_least =
    before_total g order all s t s_least.lawful t_least.lawful (t_least.least s s_least.lawful s_least.holds)
    (s_least.least t t_least.lawful t_least.holds)
