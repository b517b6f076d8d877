-- Proof of `settle_broadcast`, which adds the reach of the broadcast of a process's condition, if it has one.
-- `walked_some` says that the walk has a reach for each item (0), and for each node what later starts (1) and later
-- sends (2) depend on.
use Rattle.std.proofs.Common.{◌+◌, ◌*◌, ◌≡◌, ◌∙◌, sym, ap, ap₂, set, length, arith}
use Rattle.cpg_base.specs.Graph.{broadcast_item}
use Rattle.cpg_base.specs.Order.{place}
use Rattle.cpg_order.proofs.Moments.{phases}
use Rattle.cpg_base.proofs.ConditionProcesses.{condition_of_below}
use Rattle.cpg_reach.proofs.Steps.{walked_some}
use Rattle.cpg_reach.proofs.Walks.{no_broadcast, broadcast_settled}
use Rattle.cpg_reach.proofs.reaches.settle_broadcast.Goals as goal

-- the process has no condition, so nothing changes
pub returns-in_default : goal.returns-in_default
returns-in_default c = no_broadcast c.args.problem.now c.args.order.now c.requires.order c.args.process
    c.requires.process c.args.walk.now.reaches.items c.args.walk.now.known.items
    c.args.walk.now.sent.items
    (sym c.in_default.ensures) c.requires.walked

-- the walk has a reach for each item
pub broadcast_of-reach-requires-clause-items : goal.broadcast_of-reach-requires-clause-items
broadcast_of-reach-requires-clause-items c = ap length c.as_slice.ensures.value
    ∙ (walked_some c.args.problem.now c.args.order.now c.requires.order (place c.args.order.now c.args.process + 1)
    (place c.args.order.now c.args.process * phases c.args.problem.now + 2) c.args.walk.now.reaches.items
    c.args.walk.now.known.items c.args.walk.now.sent.items c.requires.walked).0

-- the walk has a set for each node
pub broadcast_of-reach-requires-clause-nodes : goal.broadcast_of-reach-requires-clause-nodes
broadcast_of-reach-requires-clause-nodes c = ap length c.as_slice-2.ensures.value
    ∙ (walked_some c.args.problem.now c.args.order.now c.requires.order (place c.args.order.now c.args.process + 1)
    (place c.args.order.now c.args.process * phases c.args.problem.now + 2) c.args.walk.now.reaches.items
    c.args.walk.now.known.items c.args.walk.now.sent.items c.requires.walked).2

-- the item's number is below the count of items, since the condition is one of the graph
pub settle-requires-clause-item : goal.settle-requires-clause-item
settle-requires-clause-item c =
    let counts = walked_some c.args.problem.now c.args.order.now c.requires.order
    (place c.args.order.now c.args.process + 1)
    (place c.args.order.now c.args.process * phases c.args.problem.now + 2) c.args.walk.now.reaches.items
    c.args.walk.now.known.items c.args.walk.now.sent.items c.requires.walked in
    omega (
      arith,
      counts.0,
      ap length c.processes.ensures.processes,
      ap length c.edges.ensures.edges,
      condition_of_below c.args.problem.now c.args.process c.in-Some.condition (sym c.in-Some.ensures),
    )

-- the walk has a set for each node
pub settle-requires-clause-node : goal.settle-requires-clause-node
settle-requires-clause-node c =
    let counts = walked_some c.args.problem.now c.args.order.now c.requires.order
    (place c.args.order.now c.args.process + 1)
    (place c.args.order.now c.args.process * phases c.args.problem.now + 2) c.args.walk.now.reaches.items
    c.args.walk.now.known.items c.args.walk.now.sent.items c.requires.walked in
    omega (arith, counts.2, c.node_of.ensures.within)

-- the broadcast's reach is set as its item's and added to what its node has sent, so all is right up to the first
-- message
pub returns : goal.returns
returns c =
    let item : length c.processes.result.now + length c.edges.result.now + c.in-Some.condition
    ≡ broadcast_item c.args.problem.now c.in-Some.condition =
    ap₂ (λ n m. n + m + c.in-Some.condition) (ap length c.processes.ensures.processes)
    (ap length c.edges.ensures.edges) in
    broadcast_settled c.args.problem.now c.args.order.now c.requires.order c.args.process c.in-Some.condition
    c.args.walk.now.reaches.items c.as_slice.result.now c.args.walk.now.known.items
    c.args.walk.now.sent.items c.as_slice-2.result.now
    c.settle.new.walk.reaches.items c.settle.new.walk.known.items c.settle.new.walk.sent.items c.as_slice.ensures.value
    c.as_slice-2.ensures.value (sym c.in-Some.ensures) c.requires.walked
    c.node_of.result c.node_of.ensures.node c.node_of.ensures.within c.broadcast_of-reach.result c.settle.ensures.sent.0
    c.broadcast_of-reach.ensures
    (c.settle.ensures.reaches ∙ ap (λ i. set c.args.walk.now.reaches.items i c.broadcast_of-reach.result) item)
    c.settle.ensures.known c.settle.ensures.sent.1 c.settle.ensures.sent.2
