-- Loops of `ready`: returns the processes that wait for no input, the lowest first.
use Rattle.std.proofs.Common.{◌≡◌, ◌==◌, filter, get_or}
use Rattle.cpg_base.specs.Numbers.{numbers_below}
use Rattle.cpg_order.proofs.settling.ready.Given as goal

-- the list has the processes so far that wait for no input
abbrev pub invariant-loop-process : goal.invariant-loop-process
invariant-loop-process l = l.ready.items ≡ filter (λ p. get_or l.waiting p 0 == 0) (numbers_below l.process)
