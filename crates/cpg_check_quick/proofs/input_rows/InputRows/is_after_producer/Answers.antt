-- Proof of `InputRows::is_after_producer`: whether the producer of a send has ended by the time of the send, wherever a
-- column of each matches.
use Rattle.std.proofs.Common.{ap, ◌∙◌, subst, arith}
use Rattle.cpg_base.specs.Graph.{producer}
use Rattle.cpg_tree.proofs.Passes.{of_true}
use Rattle.cpg_check_quick.specs.Order.{IsBefore, execution, frame}
use Rattle.cpg_check_quick.proofs.OrderLaws.{row_at}
use Rattle.cpg_check_quick.proofs.input_rows.InputRows.is_after_producer.Goals as goal

-- the producer's execution is over by the item's columns, as `precede` says of the only item in the list
pub returns : goal.returns
returns c = of_true c.precede.result c.precede.ensures (λ all tables w.
    let graph = c.args.self.now.admitted.now.graph in
    let from = c.producer-producer.ensures.producer ∙ ap (λ h. producer h c.args.item) c.problem.ensures.problem in
    let row = row_at w.frames c.args.item c.in-Some.row.now c.deref.result.now c.deref.ensures.value
    c.in-Some.ensures.lookup.3.0 c.in-Some.ensures.lookup.1 in
    subst (λ p. IsBefore graph tables p c.args.item) from
    (all graph tables (execution graph) (frame graph c.args.item) c.args.item w.sequences.rows row 0 0 (omega arith)))
