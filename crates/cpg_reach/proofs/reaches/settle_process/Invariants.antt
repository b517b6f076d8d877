-- Loops of `settle_process`, which adds the reaches of the start of a process and of all that it sends.
use Rattle.std.proofs.Common.{◌+◌, ◌*◌}
use Rattle.cpg_base.specs.Order.{place}
use Rattle.cpg_order.proofs.Moments.{phases}
use Rattle.cpg_reach.specs.Walked.{IsWalkedTo}
use Rattle.cpg_reach.proofs.reaches.settle_process.Given as goal

-- the walk has come, at this process, past its first three phases and those of the edges so far
abbrev pub invariant-loop-edge : goal.invariant-loop-edge
invariant-loop-edge l = IsWalkedTo l.problem l.order (place l.order l.process + 1)
    (place l.order l.process * phases l.problem + 3 + l.edge) l.walk
