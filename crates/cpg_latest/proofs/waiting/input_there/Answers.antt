-- Proof of `input_there`: when a live input is there in a course: when its message arrives or its source ends.
use Rattle.std.proofs.Common.{◌≡◌, ◌∙◌, sym, ap, subst}
use Rattle.cpg_base.specs.Graph.{node_of, source}
use Rattle.cpg_bus.specs.Share.{HasSlot}
use Rattle.cpg_run.proofs.Senders.{message_slot}
use Rattle.cpg_latest.proofs.waiting.input_there.Goals as goal

-- the edge is a message, and each node that sends messages has a slot
pub frame_there-requires-clause-slot : goal.frame_there-requires-clause-slot
frame_there-requires-clause-slot c =
    let is : c.node_of.result ≡ node_of c.args.problem.now (source c.args.problem.now c.args.edge) =
    c.node_of.ensures.node ∙ ap (node_of c.args.problem.now) c.source-sender.ensures.source in
    subst (HasSlot c.args.problem.now) (sym is) (message_slot c.args.problem.now c.requires.slots c.args.edge
    c.requires.edge (sym c.is_message.ensures ∙ c.if-is_message.true))
