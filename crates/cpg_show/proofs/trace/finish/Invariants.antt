-- Loops of `finish`: the greatest planned end that any node has come to, in time units; 0 if there is none.
use Rattle.std.proofs.Common.{◌≡◌, flat_map}
use Rattle.cpg_base.specs.Numbers.{greatest, numbers_below}
use Rattle.cpg_show.specs.TraceText.{end_times}
use Rattle.cpg_show.proofs.trace.finish.Given as goal

-- `last` is the greatest end of the nodes so far, 0 if there is none
abbrev pub invariant-loop-node : goal.invariant-loop-node
invariant-loop-node l = l.last ≡ greatest (flat_map (end_times l.cluster.cluster.ends) (numbers_below l.node))
