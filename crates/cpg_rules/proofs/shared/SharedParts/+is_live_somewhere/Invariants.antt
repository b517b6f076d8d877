-- Recursion of `SharedParts::is_live_somewhere`: whether some leaf of a part is active.
use Rattle.cpg_rules.specs.Trees.{size_of}
use Rattle.cpg_rules.specs.Sharing.{tree_at}
use Rattle.cpg_rules.proofs.shared.SharedParts.+is_live_somewhere.Given as goal

-- each call goes to a side of the tree, so its size gets smaller
abbrev pub decreases-is_live_somewhere : goal.decreases-is_live_somewhere
decreases-is_live_somewhere l = size_of (tree_at l.self.now.parts l.part)
