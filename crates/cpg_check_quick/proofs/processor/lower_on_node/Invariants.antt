-- Loops of `lower_on_node`: the processes with lower numbers on the node of a process, by number.
use Rattle.std.proofs.Common.{◌≡◌, ◌==◌, filter}
use Rattle.cpg_base.specs.Graph.{node_of}
use Rattle.cpg_base.specs.Numbers.{numbers_below}
use Rattle.cpg_check_quick.proofs.processor.lower_on_node.Given as goal

-- after each process, the list has those processes so far that are on the node of the given one
abbrev pub invariant-loop-other : goal.invariant-loop-other
invariant-loop-other l =
    l.lower.items ≡ filter (λ q. node_of l.problem q == node_of l.problem l.process) (numbers_below l.other)
