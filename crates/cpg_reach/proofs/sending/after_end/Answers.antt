-- Proof of `after_end`, which returns what the end of a process and the earlier sends of a node depend on.
use Rattle.std.proofs.Common.{[], get_or, ap, ◌∙◌}
use Rattle.cpg_order.specs.Reach.{is_in, end_reach}
use Rattle.cpg_reach.proofs.Adding.{same_before, set_at}
use Rattle.cpg_reach.proofs.sending.after_end.Goals as goal

-- what a process's end depends on is added to what the node has sent
pub returns : goal.returns
returns c = same_before c.copy-reach.result (get_or c.args.sent.now c.args.node [])
    (end_reach c.args.reaches.now c.args.process) c.add_end.new.reach
    (λ v. ap (λ xs. is_in xs v) (c.copy-reach.ensures ∙ set_at c.args.sent.now c.args.node c.index-sent-node.result
    c.requires.node c.index-sent-node.is)) c.add_end.ensures
