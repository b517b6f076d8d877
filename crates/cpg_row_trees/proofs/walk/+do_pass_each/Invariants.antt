-- Recursion of `do_pass_each`: whether a test passes at each place that scenarios of a space come to.
use Rattle.std.proofs.Common.{◌+◌, ◌*◌, length}
use Rattle.cpg_row_trees.proofs.walk.+do_pass_each.Given as goal

-- `do_pass_each` calls `do_pass_side` on a list that is shorter, which calls it back on the same list: 1 more orders
-- the two
abbrev pub decreases-do_pass_each : goal.decreases-do_pass_each
decreases-do_pass_each g l = 2 * length l.items.now

-- one more than that of `do_pass_each`, which it calls on the same list
abbrev pub decreases-do_pass_side : goal.decreases-do_pass_side
decreases-do_pass_side g l = 2 * length l.items.now + 1
