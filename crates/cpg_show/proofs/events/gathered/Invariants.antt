-- Loops of `gathered`: the events of all nodes, node by node: its starts and sends, and then its ends.
use Rattle.std.proofs.Common.{◌≡◌, flat_map}
use Rattle.cpg_base.specs.Numbers.{numbers_below}
use Rattle.cpg_show.specs.TraceEvents.{node_events}
use Rattle.cpg_show.proofs.events.gathered.Given as goal

-- `events` has the events of the nodes so far, node by node
abbrev pub invariant-loop-node : goal.invariant-loop-node
invariant-loop-node l = l.events.items
    ≡ flat_map (node_events l.problem l.cluster.cluster.acts l.cluster.cluster.ends) (numbers_below l.node)
