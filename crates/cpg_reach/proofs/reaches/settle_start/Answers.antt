-- Proof of `settle_start`, which adds the reach of the start of a process, and what the process makes later ones on
-- its node wait for. `walked_some` says that the walk has a reach for each item (0), and for each node what later
-- starts (1) and later sends (2) depend on.
use Rattle.std.proofs.Common.{◌*◌, ◌∙◌, ap, length, arith}
use Rattle.cpg_base.specs.Order.{place}
use Rattle.cpg_order.proofs.Moments.{phases}
use Rattle.cpg_reach.proofs.Adding.{set_at}
use Rattle.cpg_reach.proofs.Steps.{walked_some}
use Rattle.cpg_reach.proofs.Walks.{start_settled}
use Rattle.cpg_reach.proofs.reaches.settle_start.Goals as goal

-- the walk has a reach for each item
pub start_of-reach-requires-clause-items : goal.start_of-reach-requires-clause-items
start_of-reach-requires-clause-items c = ap length c.as_slice.ensures.value
    ∙ (walked_some c.args.problem.now c.args.order.now c.requires.order (place c.args.order.now c.args.process)
    (place c.args.order.now c.args.process * phases c.args.problem.now) c.args.walk.now.reaches.items
    c.args.walk.now.known.items c.args.walk.now.sent.items c.requires.walked).0

-- the walk has a set for each node
pub start_of-reach-requires-clause-nodes : goal.start_of-reach-requires-clause-nodes
start_of-reach-requires-clause-nodes c = ap length c.as_slice-2.ensures.value
    ∙ (walked_some c.args.problem.now c.args.order.now c.requires.order (place c.args.order.now c.args.process)
    (place c.args.order.now c.args.process * phases c.args.problem.now) c.args.walk.now.reaches.items
    c.args.walk.now.known.items c.args.walk.now.sent.items c.requires.walked).1

-- the walk has a set for each node
pub index-requires : goal.index-requires
index-requires c =
    let counts = walked_some c.args.problem.now c.args.order.now c.requires.order
    (place c.args.order.now c.args.process)
    (place c.args.order.now c.args.process * phases c.args.problem.now) c.args.walk.now.reaches.items
    c.args.walk.now.known.items c.args.walk.now.sent.items c.requires.walked in
    omega (arith, counts.1, c.node_of-node.ensures.within)

-- the walk has a reach for each item
pub add_heard-requires-clause-items : goal.add_heard-requires-clause-items
add_heard-requires-clause-items c = ap length c.as_slice-3.ensures.value
    ∙ (walked_some c.args.problem.now c.args.order.now c.requires.order (place c.args.order.now c.args.process)
    (place c.args.order.now c.args.process * phases c.args.problem.now) c.args.walk.now.reaches.items
    c.args.walk.now.known.items c.args.walk.now.sent.items c.requires.walked).0

-- the walk has a set for each node
pub index_mut-requires : goal.index_mut-requires
index_mut-requires c =
    let counts = walked_some c.args.problem.now c.args.order.now c.requires.order
    (place c.args.order.now c.args.process)
    (place c.args.order.now c.args.process * phases c.args.problem.now) c.args.walk.now.reaches.items
    c.args.walk.now.known.items c.args.walk.now.sent.items c.requires.walked in
    omega (arith, counts.1, c.node_of-node.ensures.within)

-- the walk has a reach for each item
pub index_mut-requires-2 : goal.index_mut-requires-2
index_mut-requires-2 c =
    let counts = walked_some c.args.problem.now c.args.order.now c.requires.order
    (place c.args.order.now c.args.process)
    (place c.args.order.now c.args.process * phases c.args.problem.now) c.args.walk.now.reaches.items
    c.args.walk.now.known.items c.args.walk.now.sent.items c.requires.walked in
    omega (arith, counts.0, c.requires.process)

-- the start's reach is set, and its node's set gets what the process makes later ones wait for, so all is right up to
-- the broadcast
pub returns : goal.returns
returns c =
    let counts = walked_some c.args.problem.now c.args.order.now c.requires.order
    (place c.args.order.now c.args.process)
    (place c.args.order.now c.args.process * phases c.args.problem.now) c.args.walk.now.reaches.items
    c.args.walk.now.known.items c.args.walk.now.sent.items c.requires.walked in
    start_settled c.args.problem.now c.args.order.now c.requires.order c.args.process c.requires.process
    c.args.walk.now.reaches.items c.as_slice.result.now c.as_slice-3.result.now
    c.args.walk.now.known.items c.as_slice-2.result.now c.args.walk.now.sent.items
    c.as_slice.ensures.value c.as_slice-3.ensures.value c.as_slice-2.ensures.value c.requires.walked
    c.node_of-node.result c.node_of-node.ensures.node c.node_of-node.ensures.within
    c.start_of-reach.result c.copy-known.result c.add_heard.new.reach c.add.new.self c.insert.new.self
    c.start_of-reach.ensures
    (c.copy-known.ensures ∙ set_at c.args.walk.now.known.items c.node_of-node.result c.index.result.now
    (omega (arith, counts.1, c.node_of-node.ensures.within)) c.index.ensures)
    c.add_heard.ensures c.add.ensures c.insert.ensures

-- a graph has at most 128 processes, so the number of a process is a variable
pub insert-requires : goal.insert-requires
insert-requires c = omega (arith, c.processes-processes.ensures.within.few_processes, c.requires.process)
