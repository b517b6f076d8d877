-- Recursion of `push_counts`, which adds the tree of the fault count of a process, for the scenarios in which it is
-- from `first` to `k`.
use Rattle.std.proofs.Common.{◌-◌}
use Rattle.cpg_tree.proofs.variables.+push_counts.Given as goal

-- each call starts at the next count, which is closer to the last one, k
abbrev pub decreases-push_counts : goal.decreases-push_counts
decreases-push_counts l = l.k - l.first
