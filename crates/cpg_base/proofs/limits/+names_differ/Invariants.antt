-- Loops of `names_differ`: whether no two of these names are equal.
use Rattle.std.proofs.Common.{length}
use Rattle.cpg_base.proofs.limits.+names_differ.Given as goal

-- each call goes on with one name less
abbrev pub decreases-names_differ : goal.decreases-names_differ
decreases-names_differ l = length l.names.now
