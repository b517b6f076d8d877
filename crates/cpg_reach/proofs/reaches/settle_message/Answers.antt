-- Proof of `settle_message`, which adds the reach of the message of an edge, if the edge comes from the process.
-- `walked_some` says that the walk has a reach for each item (0), and for each node what later starts (1) and later
-- sends (2) depend on.
use Rattle.std.proofs.Common.{◌+◌, ◌*◌, ◌≡◌, ◌∙◌, sym, ap, set, get_or, length, arith}
use Rattle.cpg_base.specs.Graph.{message_item, edge_at}
use Rattle.cpg_base.specs.Order.{place}
use Rattle.cpg_order.proofs.Moments.{phases}
use Rattle.cpg_reach.proofs.Sends.{no_edge}
use Rattle.cpg_reach.proofs.Steps.{walked_some}
use Rattle.cpg_reach.proofs.Walks.{no_message, message_settled}
use Rattle.cpg_reach.proofs.reaches.settle_message.Goals as goal

-- the edge comes from another process, so nothing changes
pub returns-then-edges-edge : goal.returns-then-edges-edge
returns-then-edges-edge c =
    let at : get_or c.edges.result.now c.args.edge no_edge ≡ edge_at c.args.problem.now c.args.edge =
    ap (λ es. get_or es c.args.edge no_edge) c.edges.ensures.edges in
    no_message c.args.problem.now c.args.order.now c.requires.order c.args.process c.args.edge c.requires.process
    c.requires.edge c.args.walk.now.reaches.items c.args.walk.now.known.items
    c.args.walk.now.sent.items
    (λ e. c.if-edges-edge.true (ap (λ x. x.from) at ∙ e)) c.requires.walked

-- the walk has a reach for each item
pub message_of-reach-requires-clause-items : goal.message_of-reach-requires-clause-items
message_of-reach-requires-clause-items c = ap length c.as_slice.ensures.value
    ∙ (walked_some c.args.problem.now c.args.order.now c.requires.order (place c.args.order.now c.args.process + 1)
    (place c.args.order.now c.args.process * phases c.args.problem.now + 3 + c.args.edge) c.args.walk.now.reaches.items
    c.args.walk.now.known.items c.args.walk.now.sent.items c.requires.walked).0

-- the walk has a set for each node
pub message_of-reach-requires-clause-nodes : goal.message_of-reach-requires-clause-nodes
message_of-reach-requires-clause-nodes c = ap length c.as_slice-2.ensures.value
    ∙ (walked_some c.args.problem.now c.args.order.now c.requires.order (place c.args.order.now c.args.process + 1)
    (place c.args.order.now c.args.process * phases c.args.problem.now + 3 + c.args.edge) c.args.walk.now.reaches.items
    c.args.walk.now.known.items c.args.walk.now.sent.items c.requires.walked).2

-- the message of the edge is an item of the graph
pub settle-requires-clause-item : goal.settle-requires-clause-item
settle-requires-clause-item c =
    let counts = walked_some c.args.problem.now c.args.order.now c.requires.order
    (place c.args.order.now c.args.process + 1)
    (place c.args.order.now c.args.process * phases c.args.problem.now + 3 + c.args.edge) c.args.walk.now.reaches.items
    c.args.walk.now.known.items c.args.walk.now.sent.items c.requires.walked in
    omega (arith, counts.0, ap length c.processes.ensures.processes, c.requires.edge)

-- the walk has a set for each node
pub settle-requires-clause-node : goal.settle-requires-clause-node
settle-requires-clause-node c =
    let counts = walked_some c.args.problem.now c.args.order.now c.requires.order
    (place c.args.order.now c.args.process + 1)
    (place c.args.order.now c.args.process * phases c.args.problem.now + 3 + c.args.edge) c.args.walk.now.reaches.items
    c.args.walk.now.known.items c.args.walk.now.sent.items c.requires.walked in
    omega (arith, counts.2, c.node_of.ensures.within)

-- the message's reach is set as its item's and added to what its node has sent, so all is right up to the next edge's
-- message
pub returns : goal.returns
returns c =
    let at : get_or c.edges.result.now c.args.edge no_edge ≡ edge_at c.args.problem.now c.args.edge =
    ap (λ es. get_or es c.args.edge no_edge) c.edges.ensures.edges in
    let item : length c.processes.result.now + c.args.edge ≡ message_item c.args.problem.now c.args.edge =
    ap (λ n. n + c.args.edge) (ap length c.processes.ensures.processes) in
    message_settled c.args.problem.now c.args.order.now c.requires.order c.args.process c.args.edge
    c.args.walk.now.reaches.items c.as_slice.result.now c.args.walk.now.known.items
    c.args.walk.now.sent.items c.as_slice-2.result.now
    c.settle.new.walk.reaches.items c.settle.new.walk.known.items c.settle.new.walk.sent.items c.as_slice.ensures.value
    c.as_slice-2.ensures.value c.requires.edge
    (ap (λ x. x.from) (sym at) ∙ c.if-edges-edge.false) c.requires.walked
    c.node_of.result c.node_of.ensures.node c.node_of.ensures.within c.message_of-reach.result c.settle.ensures.sent.0
    c.message_of-reach.ensures
    (c.settle.ensures.reaches ∙ ap (λ i. set c.args.walk.now.reaches.items i c.message_of-reach.result) item)
    c.settle.ensures.known c.settle.ensures.sent.1 c.settle.ensures.sent.2
