-- Loops of `reaches`: returns, for each item, the variables that its time may depend on under the order.
use Rattle.std.proofs.Common.{◌*◌}
use Rattle.cpg_order.proofs.Moments.{phases}
use Rattle.cpg_reach.specs.Walked.{IsWalkedTo}
use Rattle.cpg_reach.proofs.reaches.reaches.Given as goal

-- the walk has come past the processes so far, and past all phases of each
abbrev pub invariant-loop-process : goal.invariant-loop-process
invariant-loop-process l =
    IsWalkedTo l.admitted.graph l.order l.process-index (l.process-index * phases l.admitted.graph) l.walk
