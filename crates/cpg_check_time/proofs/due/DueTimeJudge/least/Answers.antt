-- Proof of `DueTimeJudge::least`: the least scenario in which the execution that a column starts ends after its
-- process's due.
use Rattle.std.proofs.Common.{◌≡◌, ◌<◌, ◌&&◌, arith, ap, length}
use Rattle.cpg_base.specs.Duration.{due}
use Rattle.cpg_base.specs.Graph.{process_count}
use Rattle.cpg_base.specs.First.{IsFirst}
use Rattle.cpg_base.specs.Scenario.{Scenario, IsScenario}
use Rattle.cpg_cube.specs.Cube.{matches}
use Rattle.cpg_check_time.specs.Lateness.{ends_after}
use Rattle.cpg_check_time.proofs.DueLaws.{due_first}
use Rattle.cpg_check_time.proofs.due.DueTimeJudge.least.Goals as goal

-- the least scenario of the part in which the execution ends after the due is the least that breaks V9
pub returns : goal.returns
returns c =
    let graph = c.args.admitted.now.graph in
    -- the item is a start
    let within : c.args.item < process_count graph = omega (
      arith,
      c.if-item-processes.false,
      ap length c.processes.ensures.processes,
      ap process_count c.problem-problem.ensures.problem,
    ) in
    let there = rw c.in-Some.is at c.in_ok-part.ensures.part in
    -- the part in which the execution ends after the due, and its least scenario
    let part : (s : Scenario) → IsScenario graph s → matches c.in-Some.part s
    ≡ (matches c.args.column.now.cube s && ends_after graph c.args.item c.args.column.now.time
    (due graph c.args.item) s) =
    rw (← c.problem-problem.ensures.problem) (rw c.due-due.ensures at there) in
    let first : IsFirst graph c.args.admitted.now.order (matches c.in-Some.part) c.in_ok-least.least =
    rw (← c.problem-problem.ensures.problem) (c.in_ok-least.ensures.first c.args.admitted.now.order) in
    due_first graph c.args.admitted.now.order c.args.tables.now.nodes c.args.item c.args.column.now within
    c.in-Some.part
    part c.in_ok-least.least first
