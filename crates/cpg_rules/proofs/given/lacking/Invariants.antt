-- Loops of `lacking`: returns the least process of the graph that a list lacks, and `None` exactly if it lacks none.
use Rattle.std.proofs.Common.{ℕ, ◌<◌, ◌≡◌, true}
use Rattle.cpg_order.specs.Reach.{is_in}
use Rattle.cpg_rules.proofs.given.lacking.Given as goal

-- each process so far is in the list
abbrev pub invariant-loop-process : goal.invariant-loop-process
invariant-loop-process l = (q : ℕ) → q < l.process → is_in l.list q ≡ true
