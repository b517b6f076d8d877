-- Loops of `conditions_along`, which returns the conditions, in the order of their processes.
use Rattle.std.proofs.Common.{◌≡◌, take}
use Rattle.cpg_order.specs.Counting.{conditions_along}
use Rattle.cpg_reach.proofs.counting.conditions_along.Given as goal

-- the conditions so far are those of the processes so far, in their order
abbrev pub invariant-loop-process : goal.invariant-loop-process
invariant-loop-process l = l.conditions.items ≡ conditions_along l.problem (take l.process-index l.order)
