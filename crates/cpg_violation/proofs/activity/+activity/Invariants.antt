-- Recursion of `least_where` and `least_at`, which call each other.
use Rattle.std.proofs.Common.{◌+◌, ◌*◌}
use Rattle.cpg_rules.specs.Trees.{size_of}
use Rattle.cpg_violation.proofs.activity.+activity.Given as goal

-- twice the size of the guard: `least_at` calls `least_where` for a side, which is smaller
abbrev pub decreases-least_at : goal.decreases-least_at
decreases-least_at l = size_of l.tree.now * 2

-- one more than that: `least_where` calls `least_at` on the same guard
abbrev pub decreases-least_where : goal.decreases-least_where
decreases-least_where l = size_of l.tree.now * 2 + 1
