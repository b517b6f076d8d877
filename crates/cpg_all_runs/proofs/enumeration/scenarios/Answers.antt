-- Proof of `scenarios`: the scenarios of a graph that has at most 16,384 of them, each once.
use Rattle.std.proofs.Common.{◌∙◌, ap, sym, subst, All, arith}
use Rattle.cpg_all_runs.specs.Listing.{HasValue, AreScenarios, with_values_below}
use Rattle.cpg_all_runs.proofs.Listed.{values_first, values_more, all_within, are_scenarios}
use Rattle.cpg_all_runs.proofs.enumeration.scenarios.Goals as goal

-- before the loop the list has the scenarios in which every value is false
pub loop-condition-init : goal.loop-condition-init
loop-condition-init c = c.in_ok-list.ensures ∙ values_first c.args.problem.now

-- each scenario of the list has a value of the condition
pub spread_values-requires : goal.spread_values-requires
spread_values-requires c = record {
  scenarios =
      subst (All (HasValue c.loop-condition.condition)) (sym (c.as_slice.ensures.value ∙ c.loop-condition.invariant))
      (all_within c.args.problem.now c.loop-condition.condition
      (omega (arith, c.loop-condition-test.true, c.conditions-condition-end.ensures.count)));
}

-- each scenario with both values of one more condition gives the next list
pub loop-condition-preserved : goal.loop-condition-preserved
loop-condition-preserved c =
    values_more c.args.problem.now c.loop-condition.condition c.as_slice.result.now c.in_ok-list-2.list.items
    (c.as_slice.ensures.value ∙ c.loop-condition.invariant) c.in_ok-list-2.ensures

-- after the loop all conditions have had both values, and such a list has each scenario of the graph once
pub returns : goal.returns
returns c =
    let e = c.loop-condition.auto.condition-end in
    subst (AreScenarios c.args.problem.now) (sym
    (c.loop-condition.invariant ∙ ap (with_values_below c.args.problem.now)
    (omega (arith, c.loop-condition-test.false, c.conditions-condition-end.ensures.count, e))))
    (are_scenarios c.args.problem.now)
