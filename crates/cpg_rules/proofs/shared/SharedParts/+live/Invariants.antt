-- Recursion of `SharedParts::live`: returns the part that has the activation in the outcomes in which the source is
-- active and the test passes, and is inactive in all others.
use Rattle.cpg_rules.specs.Trees.{size_of}
use Rattle.cpg_rules.specs.Sharing.{tree_at}
use Rattle.cpg_rules.proofs.shared.SharedParts.+live.Given as goal

-- each call goes to a side of the source's tree, so its size gets smaller
abbrev pub decreases-live : goal.decreases-live
decreases-live l = size_of (tree_at l.self.now.parts l.source)
