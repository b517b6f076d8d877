-- Proof of `after_condition`, which returns `latest`, raised to the latest time at which a node hears a condition in a
-- scenario in which `wanted` is true; `latest` if there is none.
use Rattle.std.proofs.Common.{◌∙◌, ap, sym, subst}
use Rattle.cpg_base.specs.Bus.{slot_length}
use Rattle.cpg_base.specs.Graph.{home, node_of}
use Rattle.cpg_expand.specs.Forest.{ends_of, times_of}
use Rattle.cpg_expand.specs.Latest.{HasLater, IsRaised}
use Rattle.cpg_expand.proofs.LatestFound.{heard_by_end, heard_by_frame}
use Rattle.cpg_expand.proofs.latest.after_condition.Goals as goal

-- the condition's process is on the node, so the node hears it by that process's end
pub returns-then-node_of-node : goal.returns-then-node_of-node
returns-then-node_of-node c =
    let g = c.args.problem.now in
    let f = c.args.forest.now in
    heard_by_end g f c.args.node c.args.condition c.args.wanted.now c.args.latest c.after_end.result
    (ap (node_of g) (sym c.process_of-process.ensures.process) ∙ sym c.node_of.ensures.node ∙ c.if-node_of-node.true)
    (subst (λ q. IsRaised g (HasLater (ends_of g f q) c.args.wanted.now 0) c.args.latest c.after_end.result)
    c.process_of-process.ensures.process c.after_end.ensures)

-- the condition's process is on another node, so the node hears it by the end of its broadcast frame
pub returns : goal.returns
returns c =
    let g = c.args.problem.now in
    let f = c.args.forest.now in
    heard_by_frame g f c.args.node c.args.condition c.args.wanted.now c.args.latest c.after_frame.result
    (λ e. c.if-node_of-node.false (c.node_of.ensures.node ∙ ap (node_of g) c.process_of-process.ensures.process ∙ e))
    (subst (λ x. IsRaised g (HasLater (times_of g f x) c.args.wanted.now (slot_length g (home g x))) c.args.latest
    c.after_frame.result) c.broadcast_item.ensures.item c.after_frame.ensures)
