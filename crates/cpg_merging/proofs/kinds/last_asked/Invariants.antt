-- Loops of `last_asked`: returns, for each of `count` places, how much the last column of the place asks; 0 if it has
-- none.
use Rattle.std.proofs.Common.{◌≡◌, length}
use Rattle.cpg_merging.proofs.kinds.last_asked.Given as goal

-- the list keeps one amount for each place
abbrev pub invariant-loop-kind : goal.invariant-loop-kind
invariant-loop-kind l = length l.amounts.items ≡ l.count
