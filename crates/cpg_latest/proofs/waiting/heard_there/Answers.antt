-- Proof of `heard_there`: when a node has heard a condition in a course: when its process ends or its broadcast
-- arrives.
use Rattle.std.proofs.Common.{◌≡◌, ◌∙◌, sym, ap, subst, length, arith}
use Rattle.cpg_base.specs.Graph.{node_of, process_of}
use Rattle.cpg_base.proofs.Items.{process_of_below}
use Rattle.cpg_bus.specs.Share.{HasSlot}
use Rattle.cpg_run.proofs.Senders.{many_nodes, broadcast_slot}
use Rattle.cpg_latest.proofs.waiting.heard_there.Goals as goal

-- the process of the condition is one of the graph
pub node_of-sender-requires : goal.node_of-sender-requires
node_of-sender-requires c = omega (
  arith,
  c.process_of-process.ensures.process,
  process_of_below c.args.problem.now c.args.condition c.requires.condition,
)

-- the sender is another node than this one, so the graph has two nodes, its broadcasts are sent, and the sender has a slot
pub frame_there-requires-clause-slot : goal.frame_there-requires-clause-slot
frame_there-requires-clause-slot c =
    let is : c.node_of-sender.result ≡ node_of c.args.problem.now (process_of c.args.problem.now c.args.condition) =
    c.node_of-sender.ensures.node ∙
    ap (node_of c.args.problem.now) c.process_of-process.ensures.process in
    subst (HasSlot c.args.problem.now) (sym is)
    (broadcast_slot c.args.problem.now c.requires.slots c.args.condition c.requires.condition
    (many_nodes c.node_of-sender.result c.args.node
    (length c.args.problem.now.nodes) c.node_of-sender.ensures.within c.requires.node c.if-sender-node.false))
