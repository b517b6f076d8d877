-- Proof of `InputRows::is_from_before`: whether an input of a process comes from the same node, and its source is known
-- to be over always before the process begins.
use Rattle.std.proofs.Common.{◌≡◌, false, ap, sym, ◌∙◌, subst}
use Rattle.cpg_base.specs.Graph.{is_message, source}
use Rattle.cpg_tree.proofs.Passes.{of_true}
use Rattle.cpg_check_quick.specs.Order.{IsBefore, execution}
use Rattle.cpg_check_quick.proofs.input_rows.InputRows.is_from_before.Goals as goal

-- the edge is no message, and its source is before the process in the order of their node
pub returns : goal.returns
returns c = of_true c.is_before.result c.is_before.ensures (λ before tables w.
    let graph = c.args.self.now.admitted.now.graph in
    let near : is_message graph c.args.edge ≡ false =
    sym (c.is_message.ensures ∙ ap (λ h. is_message h c.args.edge) c.problem-problem.ensures.problem)
    ∙ c.if-is_message.false in
    let from = c.source.ensures.source ∙ ap (λ h. source h c.args.edge) c.problem-problem.ensures.problem in
    record {
      near = near;
      before = subst (λ q. IsBefore graph tables q c.args.process) from
          (before graph tables (execution graph) w.sequences);
    })
