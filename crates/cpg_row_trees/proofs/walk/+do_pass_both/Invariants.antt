-- Recursion of `do_pass_both`: whether a test passes at each pair of places to which a scenario of a space comes in two
-- trees.
use Rattle.std.proofs.Common.{◌+◌, ◌*◌, length}
use Rattle.cpg_row_trees.proofs.walk.+do_pass_both.Given as goal

-- `do_pass_both` calls `do_pass_beside` on a list that is shorter, which calls it back on the same list: 1 more
-- orders the two
abbrev pub decreases-do_pass_both : goal.decreases-do_pass_both
decreases-do_pass_both g l = 2 * length l.first.now

-- one more than that of `do_pass_both`, which it calls on the same list
abbrev pub decreases-do_pass_beside : goal.decreases-do_pass_beside
decreases-do_pass_beside g l = 2 * length l.first.now + 1
