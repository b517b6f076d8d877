-- Loops of `waiting_process`: returns the least process that waits for an input.
use Rattle.std.proofs.Common.{ℕ, ◌<◌, ◌≡◌, get_or}
use Rattle.cpg_order.proofs.cycle.waiting_process.Given as goal

-- no process so far waits for an input
abbrev pub invariant-loop-process : goal.invariant-loop-process
invariant-loop-process l = (p : ℕ) → p < l.process → get_or l.waiting p 0 ≡ 0
