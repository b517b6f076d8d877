-- Loops of `tails`: returns the tail of each process, by number.
use Rattle.cpg_order.proofs.LongestWays.{AreFound}
use Rattle.cpg_order.proofs.tails.tails.Given as goal

-- the tails of the last `done` processes of the order are found: a tail is the longest way from a process on
abbrev pub invariant-loop-done : goal.invariant-loop-done
invariant-loop-done l = AreFound l.problem l.order l.tails.items l.done
