-- Loops of `head_processes`, which returns what the head for a graph says of each process, by number.
use Rattle.std.proofs.Common.{◌≡◌, map}
use Rattle.cpg_base.specs.Numbers.{numbers_below}
use Rattle.cpg_head.specs.GraphHead.{head_process}
use Rattle.cpg_head.proofs.graph_head.head_processes.Given as goal

-- the list has what the head says of each process so far
abbrev pub invariant-loop-process : goal.invariant-loop-process
invariant-loop-process l = l.processes.items ≡ map (head_process l.problem) (numbers_below l.process)
