-- Proof of `sends_message`: whether a node sends a message.
use Rattle.std.proofs.Common.{sym, ap, length, arith}
use Rattle.cpg_base.specs.Graph.{edge_count}
use Rattle.cpg_rules.specs.Rules.{is_message_of}
use Rattle.cpg_rules.proofs.Senders.{any_there, any_nowhere}
use Rattle.cpg_rules.proofs.slots.sends_message.Goals as goal

-- this edge is a message of the node
pub returns-then-is_message_of : goal.returns-then-is_message_of
returns-then-is_message_of c =
    let within = c.loop-edge-test.true in
    sym (any_there (λ e. is_message_of c.args.problem.now e c.args.node)
    (edge_count c.args.problem.now) c.loop-edge.edge (omega (arith, ap length c.edges.ensures.edges))
    (sym c.if-is_message_of.ensures))

-- all edges have been visited, and none is a message of the node
pub returns : goal.returns
returns c =
    let done = c.loop-edge-test.false in
    sym (any_nowhere (λ e. is_message_of c.args.problem.now e c.args.node) (edge_count c.args.problem.now)
    (λ e l. c.loop-edge.invariant e (omega (arith, ap length c.edges.ensures.edges))))
