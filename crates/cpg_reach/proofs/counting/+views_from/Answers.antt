-- Proof of `views_from`, which returns how many views there are with the values set so far, if the values of
-- `conditions` are still to be chosen; `most` if there are more.
use Rattle.std.proofs.Common.{◌∙◌, ◌<◌, ap, length, length-set, arith, true}
use Rattle.cpg_base.specs.Graph.{condition_count}
use Rattle.cpg_rules.proofs.Parts.{all_parts}
use Rattle.cpg_reach.proofs.Counted.{scenario_back}
use Rattle.cpg_reach.proofs.counting.+views_from.Goals as goal

-- the conditions left are fewer, and they are conditions of the graph too
pub views_from-with_true-requires : goal.views_from-with_true-requires
views_from-with_true-requires t c =
    let below = all_parts (λ d. d < condition_count c.args.admitted.now.graph) c.in-Some.condition.now
    c.args.conditions.now c.in-Some.left.now c.in-Some.ensures.cases.0 c.requires.conditions in
    let shorter = c.in-Some.ensures.cases.1 in
    let at = c.decreases in (
      omega arith,
      (
        c.requires.ways,
        (
          below.1,
          ap (λ s. length s.values) c.set_value.ensures ∙ length-set c.views_from-as_set.new.scenario.values _ true
              ∙ ap (λ s. length s.values) c.views_from-as_set.ensures.same ∙ c.requires.values,
        ),
      ),
    )

-- the value of the condition is set and set back, so the scenario is as it was
pub returns-clause-same : goal.returns-clause-same
returns-clause-same t c = scenario_back c.args.scenario.now c.views_from-as_set.new.scenario c.set_value.new.self
    c.views_from-with_true.new.scenario c.set_value-2.new.self c.in-Some.condition.now true
    c.value-was.result
    c.views_from-as_set.ensures.same c.set_value.ensures c.views_from-with_true.ensures.same c.value-was.ensures
    c.set_value-2.ensures
