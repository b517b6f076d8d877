-- Proof of `is_sure`: whether V5 is known to hold at an item, which has these columns.
use Rattle.std.proofs.Common.{◌≤◌, ap, arith, length}
use Rattle.cpg_base.specs.Graph.{process_count}
use Rattle.cpg_tree.proofs.Passes.{of_true}
use Rattle.cpg_check_quick.proofs.InputLaws.{send_sure}
use Rattle.cpg_check_quick.proofs.inputs.is_sure.Goals as goal

-- the item is a send, and its producer has ended by each of its columns, so it keeps V5
pub returns-then-item-processes : goal.returns-then-item-processes
returns-then-item-processes c =
    of_true c.is_after_producer.result c.is_after_producer.ensures (λ before tables w rules is.
    let graph = c.args.input_rows.now.admitted.now.graph in
    let send : process_count graph ≤ c.args.item = omega (
      arith,
      c.if-item-processes.true,
      ap length c.processes.ensures.processes,
      ap process_count c.problem.ensures.problem,
    ) in
    send_sure graph tables rules c.problem.ensures.admitted.well_formed c.args.item
    c.requires.item send (before tables w))
