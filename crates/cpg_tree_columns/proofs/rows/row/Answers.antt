-- Proof of `row`, which returns the row of an item.
use Rattle.std.proofs.Common.{◌≤◌, ap, arith, length}
use Rattle.cpg_base.specs.Graph.{process_count}
use Rattle.cpg_tree_columns.proofs.rows.row.Goals as goal

-- the item is sent, so its row has the columns of its tree by their least scenarios
pub returns : goal.returns
returns c =
    let above : process_count c.args.problem.now ≤ c.args.item =
    omega (arith, ap length c.processes.ensures.processes, c.if-item-processes.false) in
    record {
      item = c.in_ok-row-2.ensures.item;
      start = λ below. absurd (omega (arith, below, above));
      send = λ _. c.in_ok-row-2.ensures.columns;
    }
