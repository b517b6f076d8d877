-- Recursion of `compare_others`, which compares two lists of literals, leaving out those on the variable.
use Rattle.std.proofs.Common.{◌+◌, length}
use Rattle.cpg_merging.proofs.joins.+compare_others.Given as goal

-- each call goes on with the rest of one list or of both, so the lists together get shorter
abbrev pub decreases-compare_others : goal.decreases-compare_others
decreases-compare_others l = length l.a.now + length l.b.now
