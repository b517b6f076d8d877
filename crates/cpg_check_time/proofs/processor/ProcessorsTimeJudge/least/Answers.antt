-- Proof of `ProcessorsTimeJudge::least`: the least scenario in which the execution that a column starts overlaps one of
-- a lower process of its node.
use Rattle.std.proofs.Common.{◌<◌, arith, ap, length}
use Rattle.cpg_base.specs.Graph.{process_count}
use Rattle.cpg_check_time.proofs.ProcessorLaws.{first_overlap}
use Rattle.cpg_check_time.proofs.processor.ProcessorsTimeJudge.least.Goals as goal

-- the item is a process, so the least scenario of a clash is the least that breaks V6
pub returns : goal.returns
returns c =
    let within : c.args.item < process_count c.args.admitted.now.graph =
    omega (
      arith,
      c.if-item-processes.false,
      ap length c.processes.ensures.processes,
      ap process_count c.problem.ensures.problem,
    ) in
    first_overlap c.args.admitted.now.graph c.args.admitted.now.order c.args.tables.now.nodes c.args.item within
    c.args.column.now c.in_ok-least.least c.in_ok-least.ensures
