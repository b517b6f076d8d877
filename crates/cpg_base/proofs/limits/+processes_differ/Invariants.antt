-- Loops of `processes_differ`: whether no two of these processes have the same name.
use Rattle.std.proofs.Common.{length}
use Rattle.cpg_base.proofs.limits.+processes_differ.Given as goal

-- each call goes on with one process less
abbrev pub decreases-processes_differ : goal.decreases-processes_differ
decreases-processes_differ l = length l.processes.now
