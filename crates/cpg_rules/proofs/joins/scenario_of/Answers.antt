-- Proof of `scenario_of`: returns the scenario without faults in which a condition is true exactly if its process
-- stands so.
use Rattle.std.proofs.Common.{arith}
use Rattle.cpg_base.proofs.Items.{process_of_below}
use Rattle.cpg_rules.proofs.Outcome.{scenario_given}
use Rattle.cpg_rules.proofs.joins.scenario_of.Goals as goal

-- the process of a condition is one of the graph, of which there are at most 128, and so it has a standing
pub bounds-standings-process : goal.bounds-standings-process
bounds-standings-process c =
    let within = c.loop-condition-test.true in
    let count = c.conditions-condition-end.ensures.count in
    let few = c.requires in
    omega (
      arith,
      process_of_below c.args.problem.now c.loop-condition.condition (omega arith),
      c.process_of-process.ensures.process,
    )

-- all conditions have been set, so this is the scenario of the standings
pub returns : goal.returns
returns c =
    let done = c.loop-condition-test.false in
    let count = c.conditions-condition-end.ensures.count in
    scenario_given c.args.problem.now c.args.standings.now c.loop-condition.scenario c.loop-condition.invariant.long
    c.loop-condition.invariant.faults
    (λ d l. c.loop-condition.invariant.given d (omega arith))
