-- The recursion of `put_paths`, which puts the columns that the tree has below a path, each later by a delay.
use Rattle.std.proofs.Common.{length}
use Rattle.cpg_packing.proofs.walking.+put_paths.Given as goal

-- a side of a fork has fewer items than the fork
abbrev pub decreases-put_paths : goal.decreases-put_paths
decreases-put_paths g l = length l.items.now
