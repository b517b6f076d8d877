-- Recursion of `do_pass`: whether a test passes at each place that scenarios of a space come to.
use Rattle.std.proofs.Common.{length}
use Rattle.cpg_row_trees.proofs.walk.+do_pass.Given as goal

-- each call goes to a shorter list of items
abbrev pub decreases-do_pass : goal.decreases-do_pass
decreases-do_pass g l = length l.items.now
