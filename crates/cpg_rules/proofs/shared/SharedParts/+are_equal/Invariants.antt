-- Recursion of `SharedParts::are_equal`: whether two parts have equal trees.
use Rattle.std.proofs.Common.{◌+◌}
use Rattle.cpg_rules.specs.Trees.{size_of}
use Rattle.cpg_rules.specs.Sharing.{tree_at}
use Rattle.cpg_rules.proofs.shared.SharedParts.+are_equal.Given as goal

-- each call goes to a side of both trees, so the sum of their sizes gets smaller
abbrev pub decreases-are_equal : goal.decreases-are_equal
decreases-are_equal l = size_of (tree_at l.self.now.parts l.first) + size_of (tree_at l.self.now.parts l.second)
