-- The recursion of `put_paths`, which puts the lines of the columns that the tree has below a path: the time of each is a
-- leaf, and its cube is the path to there.
use Rattle.std.proofs.Common.{length}
use Rattle.cpg_show.proofs.walking.+put_paths.Given as goal

-- each side of a cut has fewer items
abbrev pub decreases-put_paths : goal.decreases-put_paths
decreases-put_paths g l = length l.items.now
