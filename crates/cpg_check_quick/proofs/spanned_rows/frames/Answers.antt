-- Proof of `frames`: the rows of all items, with how long their frames last.
use Rattle.std.proofs.Common.{◌≡◌, ◌∙◌, ap, subst}
use Rattle.cpg_base.specs.Bus.{slot_length}
use Rattle.cpg_base.specs.Graph.{Graph, home}
use Rattle.cpg_violation.proofs.SpaceLaws.{few_of}
use Rattle.cpg_check_quick.specs.SpannedRows.{IsSpan}
use Rattle.cpg_check_quick.specs.Order.{frame}
use Rattle.cpg_check_quick.proofs.OrderLaws.{rows_more}
use Rattle.cpg_check_quick.proofs.spanned_rows.frames.Goals as goal

-- the row that is added is that of the next item, whose frames last as long as its node's slot
pub loop-item-preserved : goal.loop-item-preserved
loop-item-preserved c =
    let graph = c.args.admitted.now.graph in
    let length : c.slot_length.result ≡ slot_length graph (home graph c.loop-item.item) =
    c.slot_length.ensures ∙ ap (slot_length c.problem-problem.result.now) c.home.ensures.home ∙
    ap (λ h. slot_length h (home h c.loop-item.item)) c.problem-problem.ensures.problem in
    rw c.in_ok-push.ensures.items (rows_more (frame graph) graph c.args.tables.now.nodes c.loop-item.item
    c.loop-item.list.items c.spanned_row_of.result c.loop-item.invariant
    (c.spanned_row_of.ensures (frame graph c.loop-item.item)
    (subst (λ n. IsSpan graph (λ _. n) c.fixed-span.result) length (c.fixed-span.ensures graph))))

-- the space has all scenarios of the graph, and the loop made a row for each item
pub returns : goal.returns
returns c =
    let graph = c.args.admitted.now.graph in
    let faults : c.faults.result ≡ graph.faults =
    c.faults.ensures.faults ∙ ap (λ (h : Graph). h.faults) c.problem-problem.ensures.problem in
    record {
      rows = record {
        everywhere = record { lies = λ s law. c.whole.ensures.lies s (few_of graph c.faults.result faults s law) };
        each = c.loop-item.invariant.each;
      };
    }
