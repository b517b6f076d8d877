-- Proof of `met`: the least scenario that two cubes match, and `None` exactly if no scenario matches both.
use Rattle.std.proofs.Common.{[]}
use Rattle.cpg_base.specs.Scenario.{IsScenario}
use Rattle.cpg_violation.proofs.meeting.met.Goals as goal

-- the scenario that was written is one of the graph, so it still has room for all values and faults
pub returns-in_err-least-clause-room : goal.returns-in_err-least-clause-room
returns-in_err-least-clause-room c =
    let lawful : IsScenario c.args.problem.now c.meets.new.least = (c.if-not-meets.ensures.least []).lawful in
    record { values = lawful.values; faults = lawful.faults }

-- the scenario that was written still has this room after it was copied
pub returns-clause-room : goal.returns-clause-room
returns-clause-room c =
    let lawful : IsScenario c.args.problem.now c.meets.new.least = (c.if-not-meets.ensures.least []).lawful in
    record { values = lawful.values; faults = lawful.faults }

-- the copy is the scenario that was written, which is the least that both cubes match
pub returns-clause-first : goal.returns-clause-first
returns-clause-first c = rw c.in_ok-least.ensures c.if-not-meets.ensures.least
