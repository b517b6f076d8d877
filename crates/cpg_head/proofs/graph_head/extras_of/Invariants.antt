-- Loops of `extras_of`, which returns what version 2 adds for each of these processes, in their order.
use Rattle.std.proofs.Common.{◌≡◌, map, take}
use Rattle.cpg_head.specs.GraphHead.{extra_of}
use Rattle.cpg_head.proofs.graph_head.extras_of.Given as goal

-- the list has the extras of the processes so far
abbrev pub invariant-loop-process : goal.invariant-loop-process
invariant-loop-process l = l.extras.items ≡ map extra_of (take l.process-index l.processes)
