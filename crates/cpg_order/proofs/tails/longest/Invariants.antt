-- Loops of `longest`: returns the longest way over one of these edges and on, and 0 if there are none.
use Rattle.std.proofs.Common.{◌≡◌, ◌+◌, if◌then◌else◌, get_or, map, take}
use Rattle.cpg_base.specs.Numbers.{greatest}
use Rattle.cpg_base.specs.Graph.{is_message, target}
use Rattle.cpg_order.proofs.tails.longest.Given as goal

-- `longest` is the longest way over one of the outputs so far: the tail of its target, and a round if it is a message
abbrev pub invariant-loop-edge : goal.invariant-loop-edge
invariant-loop-edge l = l.longest
    ≡ greatest (map (λ e. (if is_message l.problem e then l.round else 0) + get_or l.tails (target l.problem e) 0)
    (take l.edge-index l.outputs))
