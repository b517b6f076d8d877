-- Recursion of `are_same_literals`: whether two lists of literals are equal, compared eight at a time.
use Rattle.std.proofs.Common.{length}
use Rattle.cpg_row_trees.proofs.slices.+are_same_literals.Given as goal

-- each call goes to the literals behind those compared, so the list gets shorter
abbrev pub decreases-are_same_literals : goal.decreases-are_same_literals
decreases-are_same_literals l = length l.literals.now
