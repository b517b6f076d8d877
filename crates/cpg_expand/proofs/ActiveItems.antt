-- The tree of where a process's guard leads to an active leaf says where its items are active.
use Rattle.std.proofs.Common.{ℕ, ◌<◌, ◌≡◌, ◌∙◌, Bool, List, ap, sym, subst}
use Rattle.cpg_base.specs.Graph.{Graph, process_count, producer, producer_of_item}
use Rattle.cpg_base.specs.Activity.{active, is_active, item_active}
use Rattle.cpg_base.proofs.Items.{item_at-start}
use Rattle.cpg_order.specs.Guard.{Guard, outcome_at, way}
use Rattle.cpg_base.specs.Scenario.{Scenario, IsScenario}
use Rattle.cpg_rules.specs.Guards.{Guards, tree_of}
use Rattle.cpg_rules.specs.Admission.{IsAdmitted}
use Rattle.cpg_tree.specs.Tree.{TreeState}
use Rattle.cpg_expand.specs.Active.{IsActivityOf}
use Rattle.cpg_expand.specs.Agreeing.{HasValueFrom}
use Rattle.cpg_expand.specs.Guarded.{IsActiveTree, values_known}
use Rattle.cpg_expand.specs.Sending.{IsGoesTree}
use Rattle.cpg_tree.proofs.OnePath.{scenario_few}

-- given: a process of an admitted graph, its guard, and the tree of where the guard leads to an active leaf
-- `guard`, `is`: p's guard; `chooser`, `chosen`: the tree of where that guard leads to an active leaf
module _ (g : Graph) (order : List ℕ) (guards : Guards) (admitted : IsAdmitted g order guards) (guard : Guard) (p : ℕ)
    (l : p < process_count g) (is : guard ≡ tree_of guards p)
    (chooser : TreeState Bool) (chosen : IsActiveTree g.faults guard chooser) where
  -- in each scenario the tree says whether the process is active, by the conditions on its guard's way
  active_has_value : (s : Scenario) → IsScenario g s →
      HasValueFrom s (values_known s (way guard s.values)) (active g s.values p) chooser
  active_has_value s law = subst (λ b. HasValueFrom s (values_known s (way guard s.values)) b chooser)
      (ap (λ t. is_active (outcome_at t s.values)) is
      ∙ ap is_active ((admitted.guards.trees p l).is s.values law.values)) (chosen s (scenario_few g s law))

  -- a start is active just where its process is
  pub start_activity : (x : ℕ) → x < process_count g → p ≡ producer g x → IsActivityOf g x chooser
  start_activity x small is_producer s path law on = (active_has_value s law).value path on
      ∙ ap (active g s.values) (is_producer ∙ ap (producer_of_item g) (item_at-start g x small)) ∙
      sym (ap (item_active g s.values) (item_at-start g x small))

  -- an item that is sent is active just where the tree of that, made from the process's, is true
  pub sent_activity : (x : ℕ) → p ≡ producer g x → (t : TreeState Bool) → IsGoesTree g x chooser t → IsActivityOf g x t
  sent_activity x is_producer t goes s path law on =
      (goes s (scenario_few g s law) (values_known s (way guard s.values))
      (subst (λ q. HasValueFrom s (values_known s (way guard s.values)) (active g s.values q) chooser) is_producer
      (active_has_value s law))).value path on
