-- Loops of `processes`: returns the processes of these ranks, in the same order.
use Rattle.std.proofs.Common.{◌≡◌, map, take}
use Rattle.cpg_order.proofs.urgency_order.processes.Given as goal

-- the list has the processes of the ranks so far
abbrev pub invariant-loop-rank : goal.invariant-loop-rank
invariant-loop-rank l = l.processes.items ≡ map (λ r. r.process) (take l.rank-index l.ranks)
