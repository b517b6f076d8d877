-- Proof of `gathered`: the events of all nodes, node by node: its starts and sends, and then its ends.
use Rattle.std.proofs.Common.{◌++◌, All, ap, arith, length, map, subst, sym, ◌∙◌}
use Rattle.cpg_show.specs.TraceEvents.{IsActWithin, event_of_act, event_of_end}
use Rattle.cpg_show.proofs.TraceSteps.{one_node}
use Rattle.cpg_show.proofs.Within.{acts_at}
use Rattle.cpg_show.proofs.events.gathered.Goals as goal

-- in a play the acts of a node are on items of the graph
pub add_acts-requires : goal.add_acts-requires
add_acts-requires c = subst (All (IsActWithin c.args.problem.now)) (sym c.acts.ensures)
    (acts_at c.args.cluster.now c.requires.playing c.args.problem.now c.requires.same c.loop-node.node
    (omega (arith, ap length c.nodes.ensures.nodes)))

-- the events so far are followed by the acts of this node, and these by its ends
pub loop-node-preserved : goal.loop-node-preserved
loop-node-preserved c = one_node c.args.problem.now c.args.cluster.now.cluster.acts c.args.cluster.now.cluster.ends
    c.loop-node.node c.loop-node.events.items c.add_acts.new.events.items
    c.add_ends.new.events.items
    c.loop-node.invariant
    (c.in_ok-add_acts.ensures
    ∙ ap (λ acts. c.loop-node.events.items ++ map (event_of_act c.args.problem.now c.loop-node.node) acts)
    c.acts.ensures)
    (c.in_ok-add_ends.ensures
    ∙ ap (λ ends. c.add_acts.new.events.items ++ map (event_of_end c.loop-node.node) ends) c.ends.ensures)
