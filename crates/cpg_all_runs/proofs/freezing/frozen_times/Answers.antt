-- Proof of `frozen_times`: the times of the frozen items under an order, in time units, given all scenarios and the
-- result of `first_alike` for them.
use Rattle.std.proofs.Common.{ℕ, ◌≡◌, ◌∙◌, List, ap, ap₂, length, rules, subst, sym}
use Rattle.cpg_base.specs.Graph.{Graph, process_count}
use Rattle.cpg_base.specs.Scenario.{Scenario}
use Rattle.cpg_base.proofs.Places.{length_order}
use Rattle.cpg_bus.specs.Plan.{plan_of}
use Rattle.cpg_rules.specs.Guards.{Guards}
use Rattle.cpg_order.specs.Urgency.{IsTopological}
use Rattle.cpg_rules.specs.Admission.{IsAdmitted}
use Rattle.cpg_run.specs.Frozen.{AreFrozenTimes}
use Rattle.cpg_run.specs.FrozenItems.{frozen_along}
use Rattle.cpg_run.specs.Setting.{IsSetting}
use Rattle.cpg_run.specs.declared.setting.Setting.{Setting}
use Rattle.cpg_run.proofs.Settled.{settled_first, settled_all}
use Rattle.cpg_all_runs.specs.Active.{AreExamples}
use Rattle.cpg_all_runs.proofs.freezing.frozen_times.Goals as goal

-- the order has as many places as the graph has processes
pub frozen_items-requires-clause-order : goal.frozen_items-requires-clause-order
frozen_items-requires-clause-order c =
    length_order (process_count c.args.admitted.now.graph) c.args.order.now c.requires.topological.all
    ∙ sym (ap process_count c.problem-problem.ensures.problem)

-- if no item is frozen, all are settled at once: no item has a frozen time
pub returns-then-is_empty-clause-frozen : goal.returns-then-is_empty-clause-frozen
returns-then-is_empty-clause-frozen c =
    let g = c.args.admitted.now.graph in
    let order = c.args.order.now in
    let items = c.in_ok-items.items.items in
    let frozen = c.in_ok-frozen.frozen in
    let none : 0 ≡ length items = search rules in
    settled_all g order c.requires.topological items 0 frozen
    (settled_first g order c.requires.topological items frozen c.problem-problem.result.now
    (c.in_ok-items.ensures ∙ ap (λ (h : Graph). frozen_along h order) c.problem-problem.ensures.problem)
    c.in_ok-frozen.ensures c.problem-problem.ensures.problem)
    none

-- the setting of an admitted graph, a topological order and the graph's plan
made_setting : (setting : Setting) (g : Graph) (urgency order : List ℕ) (guards : Guards) → setting.problem.now ≡ g →
    setting.guards.now ≡ guards → setting.order.now ≡ order → setting.plan.now ≡ plan_of g →
    IsAdmitted g urgency guards → IsTopological g order → IsSetting setting
made_setting setting g urgency order guards p q o l admitted topological = record {
  admitted = (
    urgency,
    subst (λ (x : Graph). IsAdmitted x urgency setting.guards.now) (sym p)
        (subst (λ (x : Guards). IsAdmitted g urgency x) (sym q) admitted),
  );
  topological = subst (λ (x : Graph). IsTopological x setting.order.now) (sym p)
      (subst (λ (x : List ℕ). IsTopological g x) (sym o) topological);
  plan = l ∙ sym (ap plan_of p);
}

-- the setting is that of the admitted graph
pub sweep-requires-clause-setting : goal.sweep-requires-clause-setting
sweep-requires-clause-setting c =
    made_setting c.of-setting.result c.args.admitted.now.graph c.args.admitted.now.order c.args.order.now
    c.args.admitted.now.guards c.of-setting.ensures.problem c.of-setting.ensures.guards c.of-setting.ensures.order
    (c.of-setting.ensures.plan ∙ c.requires.plan) c.problem-problem.ensures.admitted c.requires.topological

-- the items are those that are frozen, along the order
pub sweep-requires-clause-items : goal.sweep-requires-clause-items
sweep-requires-clause-items c =
    c.as_slice-2.ensures.value ∙ c.in_ok-items.ensures
    ∙ ap₂ frozen_along (c.problem-problem.ensures.problem ∙ sym c.of-setting.ensures.problem)
    (sym c.of-setting.ensures.order)

-- the examples show the runs of all scenarios of the setting's graph
pub sweep-requires-clause-scenarios : goal.sweep-requires-clause-scenarios
sweep-requires-clause-scenarios c =
    subst (λ (xs : List Scenario). AreExamples c.of-setting.result.problem.now xs) (sym c.as_slice.ensures.value)
    (subst (λ (x : Graph). AreExamples x c.in_ok-examples.examples.items) (sym c.of-setting.ensures.problem)
    (c.in_ok-examples.ensures c.args.admitted.now.graph c.requires.scenarios c.requires.firsts))

-- the times that are found in the setting are those of the graph under the order
pub returns-clause-frozen : goal.returns-clause-frozen
returns-clause-frozen c =
    subst (λ (o : List ℕ). AreFrozenTimes c.args.admitted.now.graph o c.in_ok-frozen-2.frozen) c.of-setting.ensures.order
    (subst (λ (x : Graph). AreFrozenTimes x c.of-setting.result.order.now c.in_ok-frozen-2.frozen)
    c.of-setting.ensures.problem c.in_ok-frozen-2.ensures.frozen)
