-- Proof of `set_values`, which sets the value of each condition to the given one, or to false if none is given.
use Rattle.std.proofs.Common.{ℕ, Bool, false, List, unwrap_or, sym, ap, subst, ◌∙◌, ◌+◌, arith}
use Rattle.toml.specs.View.{table_view}
use Rattle.cpg_base.specs.Graph.{condition_count, process_of}
use Rattle.cpg_base.specs.Scenario.{Scenario}
use Rattle.cpg_base.proofs.Items.{process_of_below}
use Rattle.cpg_scenario.specs.File.{value_given, values_of}
use Rattle.cpg_scenario.proofs.Filling.{FilledTo, filled_next, filled_all}
use Rattle.cpg_scenario.proofs.Budget.{scenario_is}
use Rattle.cpg_scenario.proofs.reading.set_values.Goals as goal

-- the process of a condition is one of the graph
pub value_given-given-requires : goal.value_given-given-requires
value_given-given-requires c =
    let more = c.loop-condition-test.true in
    let is = c.process_of.ensures.process in
    omega (
      arith,
      process_of_below c.args.problem.now c.loop-condition.condition
          (omega (arith, c.conditions-condition-end.ensures.count)),
    )

-- one more condition has its value
pub loop-condition-preserved : goal.loop-condition-preserved
loop-condition-preserved c =
    let more = c.loop-condition-test.true in
    let value = λ (d : ℕ). unwrap_or
    (value_given c.args.problem.now (table_view c.args.document.now) (process_of c.args.problem.now d)) false in
    record {
      filled = subst (λ (xs : List Bool).
          FilledTo value (condition_count c.args.problem.now) false (c.loop-condition.condition + 1) xs)
          (sym (ap (λ (s : Scenario). s.values) c.set_value.ensures))
          (filled_next value (condition_count c.args.problem.now) false c.loop-condition.condition
          c.loop-condition.scenario.values c.unwrap_or.result
          (omega (arith, c.conditions-condition-end.ensures.count))
          (c.unwrap_or.ensures ∙ ap (λ o. unwrap_or o false) (c.value_given-given.ensures
          ∙ ap (value_given c.args.problem.now (table_view c.args.document.now)) c.process_of.ensures.process))
          c.loop-condition.invariant.filled);
      faults = ap (λ (s : Scenario). s.faults) c.set_value.ensures ∙ c.loop-condition.invariant.faults;
    }

-- all values are filled in, so these are the values of the document
pub returns : goal.returns
returns c =
    let done = c.loop-condition-test.false in
    scenario_is c.loop-condition.scenario
    (values_of c.args.problem.now (table_view c.args.document.now)) c.args.scenario.now.faults
    (filled_all (λ d. unwrap_or
    (value_given c.args.problem.now (table_view c.args.document.now) (process_of c.args.problem.now d)) false)
    (condition_count c.args.problem.now) false c.loop-condition.condition c.loop-condition.scenario.values
    (omega (arith, c.conditions-condition-end.ensures.count)) c.loop-condition.invariant.filled)
    c.loop-condition.invariant.faults
