-- Proof of `least_late`: the least scenario that a cube and a column match, and in which the execution that the column
-- starts ends after `time`.
use Rattle.std.proofs.Common.{◌≡◌, ◌&&◌, [], ap}
use Rattle.cpg_base.specs.Scenario.{Scenario, IsScenario}
use Rattle.cpg_base.proofs.First.{first_same}
use Rattle.cpg_cube.specs.Cube.{matches}
use Rattle.cpg_check_time.specs.Lateness.{ends_after}
use Rattle.cpg_check_time.proofs.lateness.least_late.Goals as goal

-- if memory runs out, `room` is the least scenario that the cube and the column both match, which is one of the graph
pub returns-in_err-part-clause-room : goal.returns-in_err-part-clause-room
returns-in_err-part-clause-room c =
    let lawful : IsScenario c.args.problem.now c.meets.new.least = (c.if-not-meets.ensures.least []).lawful in
    record { values = lawful.values; faults = lawful.faults }

-- if the execution always ends by the time, `room` is that scenario, too
pub returns-in_default-clause-room : goal.returns-in_default-clause-room
returns-in_default-clause-room c =
    let lawful : IsScenario c.args.problem.now c.meets.new.least = (c.if-not-meets.ensures.least []).lawful in
    record { values = lawful.values; faults = lawful.faults }

-- `room` is that scenario when `met` is called, so `met` may write into it
pub met-requires-clause-room : goal.met-requires-clause-room
met-requires-clause-room c =
    let lawful : IsScenario c.args.problem.now c.meets.new.least = (c.if-not-meets.ensures.least []).lawful in
    record { values = lawful.values; faults = lawful.faults }

-- the part matches exactly if the column matches and the execution ends after the time, so the least scenario that the
-- cube and the part match is the answer
pub returns-clause-first : goal.returns-clause-first
returns-clause-first c =
    let graph = c.args.problem.now in
    let part : (s : Scenario) → IsScenario graph s → matches c.in-Some.part s
    ≡ (matches c.args.column.now.cube s && ends_after graph c.args.process c.args.column.now.time c.args.time s) =
    rw c.in-Some.is at c.in_ok-part.ensures.part in
    λ order. first_same graph order (λ s. matches c.args.cube.now s && matches c.in-Some.part s)
    (λ s. matches c.args.cube.now s && (matches c.args.column.now.cube s
    && ends_after graph c.args.process c.args.column.now.time c.args.time s)) c.in_ok-found.found
    (λ s lawful. ap (λ b. matches c.args.cube.now s && b) (part s lawful)) (c.in_ok-found.ensures.first order)
