-- The least scenario in which a column matches and its item, or the process of one of its literals, is inactive: from
-- what guards say of a process, from the source of an edge and its value, and from what makes the item active.
use Rattle.std.proofs.Common.{ℕ, ◌≡◌, ◌<◌, Bool, true, false, not, ◌&&◌, ◌||◌, List, [], get_or, Option, refl, sym, ap}
use Rattle.std.proofs.Common.{◌∙◌}
use Rattle.std.specs.Prelude.{IfOk, Result}
use Rattle.std.proofs.Math.Bool.{and_comm}
use Rattle.std.proofs.lemmas.Result.{IfOk-weaker}
use Rattle.cpg_base.specs.Numbers.{same_bool}
use Rattle.cpg_base.specs.Graph.{Graph, process_count, item_at}
use Rattle.cpg_base.specs.Activity.{active, is_active, item_active}
use Rattle.cpg_order.specs.Guard.{outcome_at}
use Rattle.cpg_base.specs.Scenario.{Scenario, IsScenario}
use Rattle.cpg_base.specs.First.{IsFirst, earlier}
use Rattle.cpg_base.proofs.First.{first_same}
use Rattle.cpg_rules.specs.Guards.{Guards, tree_of}
use Rattle.cpg_cube.specs.Cube.{matches, holds}
use Rattle.cpg_cube.specs.declared.literal.Literal.{Literal}
use Rattle.cpg_cover.specs.Cover.{is_left}
use Rattle.cpg_rules.specs.Admission.{IsAdmitted}
use Rattle.cpg_violation.specs.Activity.{comes_to, value_literal}
use Rattle.cpg_violation.specs.Sources.{is_active_by}
use Rattle.cpg_violation.specs.declared.sources.ItemSource.{ItemSource}
use Rattle.cpg_violation.proofs.ActiveWhere.{value_holds}
use Rattle.cpg_violation.proofs.Columnwise.{first_either}
use Rattle.cpg_violation.proofs.Tests.{not_both, with_true}

-- `false` equals just what isn't true
same_false : (b : Bool) → same_bool false b ≡ not b
same_false true = refl
same_false false = refl

-- the other value than `v` equals just what `v` doesn't
other_bool : (v b : Bool) → same_bool (not v) b ≡ not (same_bool v b)
other_bool true true = refl
other_bool true false = refl
other_bool false true = refl
other_bool false false = refl

-- the literal that condition `c` has the other value than `v` holds just where it hasn't `v`
pub other_holds : (s : Scenario) (c : ℕ) (v : Bool) →
    holds s (value_literal c (not v)) ≡ not (same_bool v (get_or s.values c false))
other_holds s c v = value_holds s c (not v) ∙ other_bool v (get_or s.values c false)

-- the least scenario in which a cube matches and the guard of process `p` says inactive is the least in which the cube
-- matches and the process is inactive: a guard says of each scenario whether its process is active there
pub idle_found : {g : Graph} {order : List ℕ} {guards : Guards} → IsAdmitted g order guards →
    (cube : List Literal) (p : ℕ) → p < process_count g →
    (o : Option Scenario)
    → IsFirst g order (λ s. is_left [] cube s && comes_to (tree_of guards p) false s) o →
    IsFirst g order (λ s. matches cube s && not (active g s.values p)) o
idle_found {g} {order} {guards} a cube p within o is_first = first_same g order
    (λ s. is_left [] cube s && comes_to (tree_of guards p) false s) (λ s. matches cube s && not (active g s.values p)) o
    (λ s i. ap (λ b. b && comes_to (tree_of guards p) false s) (sym (with_true (matches cube s) true refl))
    ∙ ap (λ b. matches cube s && b) (same_false (is_active (outcome_at (tree_of guards p) s.values))
    ∙ ap (λ t. not (is_active t)) ((a.guards.trees p within).is s.values i.values))) is_first

-- a cube, and scenarios by an order of processes
module _ (g : Graph) (order : List ℕ) (cube : List Literal) where
  -- if `part` matches where the cube does and literal `l` holds, its least scenario `o` is the least in which the cube
  -- matches and the literal holds
  pub with_part : (l : Literal) (part : List Literal) (o : Option Scenario) →
      ((s : Scenario) → matches part s ≡ (holds s l && matches cube s)) →
      IsFirst g order (matches part) o →
      IsFirst g order (λ s. matches cube s && holds s l) o
  with_part l part o both is_first = first_same g order (matches part) (λ s. matches cube s && holds s l) o
      (λ s _. both s ∙ and_comm (holds s l) (matches cube s)) is_first

  -- if in no scenario literal `l` holds and the cube matches, there is none in which the cube matches and the literal
  -- holds
  pub with_none : (l : Literal) → ((s : Scenario) → (holds s l && matches cube s) ≡ false) → (s : Scenario) →
      IsScenario g s →
      (matches cube s && holds s l) ≡ false
  with_none l none s lawful = and_comm (matches cube s) (holds s l) ∙ none s

  -- if tests `a` and `b` agree in each scenario, the least scenario `o` in which the cube matches and `a` fails is the
  -- least in which it matches and `b` fails
  pub inactive_same : (a b : Scenario → Bool) (o : Option Scenario) → ((s : Scenario) → IsScenario g s → b s ≡ a s) →
      IsFirst g order (λ s. matches cube s && not (a s)) o →
      IsFirst g order (λ s. matches cube s && not (b s)) o
  inactive_same a b o is is_first = first_same g order (λ s. matches cube s
      && not (a s)) (λ s. matches cube s && not (b s)) o
      (λ s i. ap (λ t. matches cube s && not t) (sym (is s i))) is_first

  -- if test `b` always fails, the least scenario `o` of the cube is the least in which the cube matches and the test
  -- fails
  pub inactive_always : (b : Scenario → Bool) (o : Option Scenario) → ((s : Scenario) → IsScenario g s → b s ≡ false) →
      IsFirst g order (matches cube) o →
      IsFirst g order (λ s. matches cube s && not (b s)) o
  inactive_always b o off is_first = first_same g order (matches cube) (λ s. matches cube s && not (b s)) o
      (λ s i. sym (ap (λ t. matches cube s && not t) (off s i) ∙ sym (with_true (matches cube s) true refl))) is_first

  -- an edge that asks for no value isn't live just where its source isn't active: `whole`, that it is live, is
  -- `source_active` and `passed`, and this is always true
  pub unlive_idle : (source_active passed whole : Scenario → Bool) (o : Option Scenario) →
      ((s : Scenario) → IsScenario g s → whole s ≡ (source_active s && passed s)) →
      ((s : Scenario) → passed s ≡ true)
      → IsFirst g order (λ s. matches cube s && not (source_active s)) o →
      IsFirst g order (λ s. matches cube s && not (whole s)) o
  unlive_idle source_active passed whole o is all is_first = inactive_same source_active whole o
      (λ s i. is s i ∙ ap (λ b. source_active s && b) (all s) ∙ sym (with_true (source_active s) true refl)) is_first

  -- an edge that asks for a value isn't live just where its source isn't active or literal `l`, the other value, holds;
  -- so the least such scenario of the cube is the earlier of the least with each of the two
  pub unlive_either : (source_active passed whole : Scenario → Bool) (l : Literal) (a b : Option Scenario) →
      ((s : Scenario) → IsScenario g s → whole s ≡ (source_active s && passed s)) →
      ((s : Scenario) → holds s l ≡ not (passed s))
      → IsFirst g order (λ s. matches cube s && not (source_active s)) a →
      IsFirst g order (λ s. matches cube s && holds s l) b →
      IsFirst g order (λ s. matches cube s && not (whole s)) (earlier g order a b)
  unlive_either source_active passed whole l a b is other is_first h = first_same g order
      (λ s. matches cube s && (not (source_active s) || holds s l)) (λ s. matches cube s && not (whole s))
      (earlier g order a b)
      (λ s i. ap (λ t. matches cube s && (not (source_active s) || t)) (other s)
      ∙ ap (λ t. matches cube s && t) (not_both (source_active s) (passed s) ∙ ap not (sym (is s i))))
      (first_either g order (matches cube) (λ s. not (source_active s)) (λ s. holds s l) a b is_first h)

  -- if item `x` is active just when its source says so, what is answered of the source is an answer for the item
  pub inactive_as : {E : Type 0} (x : ℕ) (source : ItemSource) →
      ((values : List Bool) → item_active g values (item_at g x) ≡ is_active_by g values source) →
      (r : Result (Option Scenario) E)
      → IfOk r (IsFirst g order (λ s. matches cube s && not (is_active_by g s.values source))) →
      IfOk r (IsFirst g order (λ s. matches cube s && not (item_active g s.values (item_at g x))))
  inactive_as x source is r =
      let by_source = λ (s : Scenario). is_active_by g s.values source in
      let by_item = λ (s : Scenario). item_active g s.values (item_at g x) in
      IfOk-weaker r (IsFirst g order (λ s. matches cube s && not (by_source s)))
      (IsFirst g order (λ s. matches cube s && not (by_item s)))
      (λ o. inactive_same by_source by_item o (λ s i. is s.values))

  -- an item `x` that is never active is inactive wherever the cube matches, so the least scenario of the cube is the
  -- answer
  pub inactive_never : {E : Type 0} (x : ℕ) → ((values : List Bool) → item_active g values (item_at g x) ≡ false) →
      (r : Result (Option Scenario) E)
      → IfOk r (λ o. (urgency : List ℕ) → IsFirst g urgency (matches cube) o) →
      IfOk r (IsFirst g order (λ s. matches cube s && not (item_active g s.values (item_at g x))))
  inactive_never x off r =
      let by_item = λ (s : Scenario). item_active g s.values (item_at g x) in
      IfOk-weaker r (λ o. (urgency : List ℕ) → IsFirst g urgency (matches cube) o)
      (IsFirst g order (λ s. matches cube s && not (by_item s)))
      (λ o found. inactive_always by_item o (λ s i. off s.values) (found order))
