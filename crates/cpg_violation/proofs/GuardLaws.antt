-- Why a process or an item is active in all scenarios of a space, or in none: by the two sides of a test of its guard,
-- and by what makes the item active. A guard comes to what is wanted where its process is active, if `wanted` is true,
-- or inactive, if it is false; a test goes on at its side for the condition's value.
use Rattle.std.proofs.Common.{ℕ, ◌<◌, ◌≡◌, Bool, true, false, not, ◌&&◌, List, Option, Some, get_or, refl, sym, ap, ◌∙◌}
use Rattle.std.proofs.Common.{subst}
use Rattle.std.specs.Bool.{OnTrue}
use Rattle.std.specs.Prelude.{unwrap_or}
use Rattle.std.proofs.lemmas.Bool.{both_ways}
use Rattle.cpg_base.specs.Numbers.{same_bool}
use Rattle.cpg_base.specs.Graph.{Graph, condition_of, item_at, process_count}
use Rattle.cpg_base.specs.Activity.{active, is_active, item_active, takes, value_of}
use Rattle.cpg_order.specs.Guard.{Guard, Test, outcome_at}
use Rattle.cpg_base.specs.Scenario.{Scenario, IsScenario}
use Rattle.cpg_rules.specs.Guards.{Guards, tree_of}
use Rattle.cpg_cube.specs.Cube.{holds}
use Rattle.cpg_rules.specs.Admission.{IsAdmitted}
use Rattle.cpg_tree.specs.declared.space.Space.{Space}
use Rattle.cpg_tree.specs.Space.{IsInSpace}
use Rattle.cpg_tree.proofs.Passes.{of_true}
use Rattle.cpg_violation.specs.Activity.{comes_to, value_literal}
use Rattle.cpg_violation.specs.Sources.{is_active_by}
use Rattle.cpg_violation.specs.declared.sources.ItemSource.{ItemSource}
use Rattle.cpg_violation.proofs.ActiveWhere.{value_holds}

-- given: a test of condition `c`, with its sides for false and true, in one scenario
module _ (wanted : Bool) (c : ℕ) (off on : Guard) (s : Scenario) where
  -- if the side for the condition's value doesn't come to what is wanted, the test doesn't
  arms : (v : Bool) → get_or s.values c false ≡ v → (v ≡ false → comes_to off wanted s ≡ false) →
      (v ≡ true → comes_to on wanted s ≡ false) →
      comes_to (Test c off on) wanted s ≡ false
  arms true value_is low high = rw value_is (high refl)
  arms false value_is low high = rw value_is (low refl)

  -- if the condition is true and the side for true doesn't come to what is wanted, the test doesn't
  pub only_on : holds s (value_literal c true) ≡ true → comes_to on wanted s ≡ false →
      comes_to (Test c off on) wanted s ≡ false
  only_on held high = arms (get_or s.values c false) refl (λ value_is.
      absurd (both_ways (holds s (value_literal c true)) (value_holds s c true ∙ ap (same_bool true) value_is) held))
      (λ value_is. high)

  -- if the condition is false and the side for false doesn't come to what is wanted, the test doesn't
  pub only_off : holds s (value_literal c false) ≡ true → comes_to off wanted s ≡ false →
      comes_to (Test c off on) wanted s ≡ false
  only_off held low = arms (get_or s.values c false) refl (λ value_is. low)
      (λ value_is. absurd (both_ways (holds s (value_literal c false))
      (value_holds s c false ∙ ap (same_bool false) value_is) held))

  -- if neither side comes to what is wanted, the test doesn't
  pub both_arms : comes_to off wanted s ≡ false → comes_to on wanted s ≡ false →
      comes_to (Test c off on) wanted s ≡ false
  both_arms low high = arms (get_or s.values c false) refl (λ value_is. low) (λ value_is. high)

-- given: a guard that is a test of condition `c`, with the sides `off` and `on`, and a space
module _ (wanted : Bool) (tree : Guard) (c : ℕ) (off on : Guard) (is : tree ≡ Test c off on) (space : Space) where
  -- if condition `c` is true in the whole space, what `b` answers of the side for true (`on`) is true of the guard
  pub step_on : (b : Bool) → OnTrue b ((s : Scenario) → IsInSpace space s → comes_to on wanted s ≡ false) →
      ((s : Scenario) → IsInSpace space s → holds s (value_literal c true) ≡ true)
      → OnTrue b ((s : Scenario) → IsInSpace space s → comes_to tree wanted s ≡ false)
  step_on b high some =
      of_true b high (λ told. subst (λ t. (s : Scenario) → IsInSpace space s → comes_to t wanted s ≡ false) (sym is)
      (λ s lies. only_on wanted c off on s (some s lies) (told s lies)))

  -- if condition `c` is false in the whole space, and the side for false (`off`) never comes to what is wanted there,
  -- neither does the guard
  pub step_off : ((s : Scenario) → IsInSpace space s → comes_to off wanted s ≡ false) →
      ((s : Scenario) → IsInSpace space s → holds s (value_literal c false) ≡ true)
      → (s : Scenario) → IsInSpace space s → comes_to tree wanted s ≡ false
  step_off low none = subst (λ t. (s : Scenario) → IsInSpace space s → comes_to t wanted s ≡ false) (sym is)
      (λ s lies. only_off wanted c off on s (none s lies) (low s lies))

  -- if the side for false (`off`) never comes to what is wanted in the space, what `b` answers of the side for true
  -- (`on`) is true of the guard
  pub step_both : (b : Bool) → ((s : Scenario) → IsInSpace space s → comes_to off wanted s ≡ false) →
      OnTrue b ((s : Scenario) → IsInSpace space s → comes_to on wanted s ≡ false)
      → OnTrue b ((s : Scenario) → IsInSpace space s → comes_to tree wanted s ≡ false)
  step_both b low high =
      of_true b high (λ told. subst (λ t. (s : Scenario) → IsInSpace space s → comes_to t wanted s ≡ false) (sym is)
      (λ s lies. both_arms wanted c off on s (low s lies) (told s lies)))

-- given: a process of an admitted graph, in a scenario
module _ {g : Graph} {order : List ℕ} {guards : Guards} (admitted : IsAdmitted g order guards) (p : ℕ)
    (is_process : p < process_count g) (s : Scenario) (lawful : IsScenario g s) where
  -- the guard of the process says whether it is active
  by_tree : is_active (outcome_at (tree_of guards p) s.values) ≡ active g s.values p
  by_tree = ap is_active ((admitted.guards.trees p is_process).is s.values lawful.values)

  -- a value equals `true` just if it is true
  same_true : (b : Bool) → same_bool true b ≡ b
  same_true true = refl
  same_true false = refl

  -- a value that doesn't equal `false` is true
  same_false : (b : Bool) → same_bool false b ≡ false → b ≡ true
  same_false true differs = refl
  same_false false differs = sym differs

  -- if the guard doesn't say active, the process is inactive
  pub idle_of : comes_to (tree_of guards p) true s ≡ false → active g s.values p ≡ false
  idle_of not_active = sym by_tree ∙ sym (same_true (is_active (outcome_at (tree_of guards p) s.values))) ∙ not_active

  -- if the guard doesn't say inactive, the process is active
  pub running_of : comes_to (tree_of guards p) false s ≡ false → active g s.values p ≡ true
  running_of not_inactive = sym by_tree ∙ same_false (is_active (outcome_at (tree_of guards p) s.values)) not_inactive

-- given: an edge that asks for a value of condition `c`, which is that of its source `p`
module _ (g : Graph) (s : Scenario) (p c : ℕ) (when : Option Bool) (value : Bool) (is : condition_of g p ≡ Some c)
    (asks : when ≡ Some value) where
  -- the edge takes the source's value exactly if the condition has the value that it asks for
  taken_as : takes when (value_of g s.values p) ≡ same_bool value (get_or s.values c false)
  taken_as = ap (λ w. takes w (value_of g s.values p)) asks
      ∙ ap (λ o. same_bool value (get_or s.values (unwrap_or o 0) false)) is

  -- if the condition has the value that the edge asks for, the edge takes it
  pub taken_of : holds s (value_literal c value) ≡ true → takes when (value_of g s.values p) ≡ true
  taken_of held = taken_as ∙ sym (value_holds s c value) ∙ held

  -- what equals the other value than `v` doesn't equal `v`
  other : (v b : Bool) → same_bool (not v) b ≡ true → same_bool v b ≡ false
  other true true same = sym same
  other true false same = refl
  other false true same = refl
  other false false same = sym same

  -- if the condition has the other value, the edge doesn't take it
  pub refused_of : holds s (value_literal c (not value)) ≡ true → takes when (value_of g s.values p) ≡ false
  refused_of held = taken_as ∙ other value (get_or s.values c false) (sym (value_holds s c (not value)) ∙ held)

-- if the first of two tests, `a`, fails, not both pass: an edge isn't live if its source is idle
pub idle_source : (a t : Bool) → a ≡ false → (a && t) ≡ false
idle_source true t fails = absurd (both_ways true fails refl)
idle_source false t fails = refl

-- if the second of two tests, `t`, fails, not both pass: an edge isn't live if its source has the other value
pub other_value : (a t : Bool) → t ≡ false → (a && t) ≡ false
other_value true t fails = fails
other_value false t fails = refl

-- if each of two tests, `a` and `t`, passes, both do: then an edge is live
pub both_there : (a t : Bool) → a ≡ true → t ≡ true → (a && t) ≡ true
both_there a t a_passes t_passes = rw (a_passes, t_passes) refl

-- if item `x` is active exactly when the source that was found says so, it is when a source that is the same says so
pub as_source : (g : Graph) (x : ℕ) (found source : ItemSource) →
    ((values : List Bool) → item_active g values (item_at g x) ≡ is_active_by g values found) → found ≡ source
    → (values : List Bool) → item_active g values (item_at g x) ≡ is_active_by g values source
as_source g x found source active is values = active values ∙ ap (is_active_by g values) is
