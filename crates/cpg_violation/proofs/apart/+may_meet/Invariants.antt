-- Recursion of `may_meet`: whether a scenario may match both of two lists of literals, whose variables rise.
use Rattle.std.proofs.Common.{◌+◌, length}
use Rattle.cpg_violation.proofs.apart.+may_meet.Given as goal

-- each call leaves out the first literal of at least one of the two lists
abbrev pub decreases-may_meet : goal.decreases-may_meet
decreases-may_meet l = length l.literals.now + length l.others.now
