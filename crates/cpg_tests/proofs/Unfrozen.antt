-- What a caller has at hand: no frozen times, the urgency order, and scenarios made from the one without faults.
use Rattle.std.proofs.Common.{◌≡◌, ◌∙◌, ℕ, Bool, false, List, length, get_or, set, sum, replicate, Option, None, arith}
use Rattle.std.proofs.Common.{sym, ap, inl, inr, subst, length-set}
use Rattle.std.proofs.Math.ListN.{get_or-eq_default}
use Rattle.std.proofs.lemmas.Bool.{cases_lt}
use Rattle.std.proofs.lemmas.List.{get_or-replicate, length-replicate}
use Rattle.std.proofs.lemmas.List.Folds.{sum_by-replicate}
use Rattle.std.proofs.lemmas.Option.{none-some}
use Rattle.cpg_base.specs.Graph.{Graph, process_count, condition_count, item_count}
use Rattle.cpg_base.specs.Scenario.{Scenario, IsScenario, zero_scenario}
use Rattle.cpg_rules.specs.Guards.{Guards}
use Rattle.cpg_order.specs.Urgency.{IsTopological}
use Rattle.cpg_rules.specs.Admission.{IsAdmitted}
use Rattle.cpg_run.specs.Frozen.{nothing_frozen}
use Rattle.cpg_run.specs.Known.{AreEarly}

module _ (g h : Graph) (frozen : List (Option ℕ)) (is : frozen ≡ nothing_frozen h) (same : h ≡ g) where
  -- the list of the frozen times has a place for each item
  pub unfrozen_long : length frozen ≡ item_count g
  unfrozen_long = ap length is ∙ length-replicate {A = Option ℕ} (item_count h) None ∙ ap item_count same

  -- as there are no frozen times, all are early
  pub unfrozen_early : AreEarly frozen
  unfrozen_early x time e = absurd (none-some time (sym none ∙ e))
    where
      none : get_or frozen x None ≡ None
      none = ap (λ f. get_or f x None) is ∙ elim (cases_lt x (item_count h)) [
        | inl l ↦ get_or-replicate (item_count h) x None None l
        | inr l ↦ get_or-eq_default (nothing_frozen h) None
            (omega (arith, length-replicate {A = Option ℕ} (item_count h) None))
      ]

-- a sum of zeros is 0
sum_of_zeros : (n : ℕ) → sum (replicate n 0) ≡ 0
sum_of_zeros n = sum_by-replicate (λ (x : ℕ). x) n 0 ∙ omega arith

-- the scenario without faults, in which each value is false, is a scenario of the graph
zero_lawful : (g : Graph) → IsScenario g (zero_scenario g)
zero_lawful g = record {
  values = length-replicate (condition_count g) false;
  faults = length-replicate (process_count g) 0;
  budget = omega (arith, sum_of_zeros (process_count g));
}

-- with another value of a condition it is still a scenario of the graph
pub valued_lawful : (g h : Graph) (s new : Scenario) (c : ℕ) (value : Bool) → s ≡ zero_scenario h → h ≡ g →
    new ≡ record s { values = set s.values c value } →
    IsScenario g new
valued_lawful g h s new c value is same then =
    let lawful : IsScenario g s = subst (IsScenario g) (sym (is ∙ ap zero_scenario same)) (zero_lawful g) in
    record {
      values = ap (λ (n : Scenario). length n.values) then ∙ length-set s.values c value ∙ lawful.values;
      faults = ap (λ (n : Scenario). length n.faults) then ∙ lawful.faults;
      budget = omega (arith, ap (λ (n : Scenario). sum n.faults) then, lawful.budget);
    }

-- the urgency order of an admitted graph is topological
pub urgent_topological : (g : Graph) (order urgency : List ℕ) (guards : Guards) → order ≡ urgency →
    IsAdmitted g urgency guards →
    IsTopological g order
urgent_topological g order urgency guards is a = subst (IsTopological g) (sym is) a.topological
