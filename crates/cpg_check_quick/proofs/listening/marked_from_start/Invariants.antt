-- Loops of `marked_from_start`: how many variables, from 0 on, are marked before the first that isn't: `VARIABLES` if
-- all are.
use Rattle.std.proofs.Common.{ℕ, ◌<◌, ◌≡◌, get_or, true, false}
use Rattle.cpg_check_quick.proofs.listening.marked_from_start.Given as goal

-- each variable so far is marked as known
abbrev pub invariant-loop-variable : goal.invariant-loop-variable
invariant-loop-variable l = (v : ℕ) → v < l.variable → get_or l.known v false ≡ true
