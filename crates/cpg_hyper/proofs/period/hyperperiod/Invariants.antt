-- Loops of `hyperperiod`, which returns the hyperperiod of parts; `None` exactly if it is above the longest time.
use Rattle.std.proofs.Common.{◌≤◌, take}
use Rattle.cpg_hyper.proofs.Multiples.{IsSoFar}
use Rattle.cpg_hyper.proofs.period.hyperperiod.Given as goal

-- `whole` is the hyperperiod of the parts so far, at least 1 and at most 1000000000, so the next product can't
-- overflow
abbrev pub invariant-loop-part : goal.invariant-loop-part
invariant-loop-part l =
    record { some : 1 ≤ l.whole; short : l.whole ≤ 1000000000; whole : IsSoFar (take l.part-index l.parts) l.whole }
