-- Proof of `broadcast_of`, which returns what the time of a broadcast depends on.
use Rattle.std.proofs.Common.{ap, length, arith}
use Rattle.cpg_base.specs.declared.item.Item.TheVariants.{Broadcast}
use Rattle.cpg_base.proofs.Items.{process_of_below}
use Rattle.cpg_reach.specs.Walked.{send_by}
use Rattle.cpg_reach.proofs.Sends.{nothing_sent, one_node, broadcast_sent}
use Rattle.cpg_reach.proofs.sending.broadcast_of.Goals as goal

-- there is one node, so no broadcast is sent
pub returns-then-nodes-le1 : goal.returns-then-nodes-le1
returns-then-nodes-le1 c = nothing_sent c.args.problem.now c.args.reaches.now c.args.sent.now c.none.result
    (send_by c.args.problem.now c.args.reaches.now c.args.sent.now (Broadcast c.args.condition)) c.none.ensures
    (one_node c.args.problem.now c.args.reaches.now c.args.sent.now c.args.condition
    (let few_nodes = c.if-nodes-le1.true in
    omega (arith, ap length c.nodes.ensures.nodes)))

-- the process of the condition is one of the graph
pub node_of-node-requires : goal.node_of-node-requires
node_of-node-requires c = omega (
  arith,
  process_of_below c.args.problem.now c.args.condition c.requires.condition,
  c.process_of-process.ensures.process,
)

-- the process of the condition is one of the graph, so it has a reach
pub after_end-requires-clause-process : goal.after_end-requires-clause-process
after_end-requires-clause-process c = omega (
  arith,
  process_of_below c.args.problem.now c.args.condition c.requires.condition,
  c.process_of-process.ensures.process,
  c.requires.items,
)

-- a graph has at most 128 processes, so the number of a process is a variable
pub after_end-requires-clause-variable : goal.after_end-requires-clause-variable
after_end-requires-clause-variable c =
    omega (arith, c.nodes.ensures.within.few_processes, c.process_of-process.ensures.within)

-- there are more nodes, so the broadcast depends on its process's end and on what the node has sent
pub returns : goal.returns
returns c = broadcast_sent c.args.problem.now c.args.reaches.now c.args.sent.now c.args.condition
    c.process_of-process.result c.node_of-node.result c.after_end.result
    (let few_nodes = c.if-nodes-le1.false in omega (arith, ap length c.nodes.ensures.nodes))
    c.process_of-process.ensures.process c.node_of-node.ensures.node c.after_end.ensures
