-- The recursion of `are_own`, which looks at one input after another until one comes from another node.
use Rattle.std.proofs.Common.{length}
use Rattle.cpg_expand.proofs.guarded.+are_own.Given as goal

-- each call hands on the inputs without the first one, so the list gets shorter
abbrev pub decreases-are_own : goal.decreases-are_own
decreases-are_own l = length l.edges.now
