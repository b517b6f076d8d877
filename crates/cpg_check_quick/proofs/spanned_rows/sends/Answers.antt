-- Proof of `sends`: the rows of all items, each send taken to last one time unit.
use Rattle.std.proofs.Common.{◌≡◌, ◌∙◌, ap}
use Rattle.cpg_base.specs.Graph.{Graph}
use Rattle.cpg_violation.proofs.SpaceLaws.{few_of}
use Rattle.cpg_check_quick.specs.Order.{sending}
use Rattle.cpg_check_quick.proofs.OrderLaws.{rows_more}
use Rattle.cpg_check_quick.proofs.spanned_rows.sends.Goals as goal

-- the row that is added is that of the next item, whose sends are taken to last 1
pub loop-item-preserved : goal.loop-item-preserved
loop-item-preserved c = rw c.in_ok-push.ensures.items
    (rows_more (sending) c.args.admitted.now.graph c.args.tables.now.nodes c.loop-item.item c.loop-item.list.items
    c.spanned_row_of.result c.loop-item.invariant
    (c.spanned_row_of.ensures (sending c.loop-item.item) (c.one.ensures c.args.admitted.now.graph)))

-- the space has all scenarios of the graph, and the loop made a row for each item
pub returns-clause-rows : goal.returns-clause-rows
returns-clause-rows c =
    let graph = c.args.admitted.now.graph in
    let faults : c.faults.result ≡ graph.faults =
    c.faults.ensures.faults ∙ ap (λ (h : Graph). h.faults) c.problem-problem.ensures.problem in
    record {
      everywhere = record { lies = λ s law. c.whole.ensures.lies s (few_of graph c.faults.result faults s law) };
      each = c.loop-item.invariant.each;
    }
