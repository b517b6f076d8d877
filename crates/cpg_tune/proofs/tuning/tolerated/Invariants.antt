-- Loops of `tolerated`: returns the greatest fault number whose row is accepted, and `None` exactly if no row is.
use Rattle.std.proofs.Common.{◌≡◌, drop}
use Rattle.cpg_tune.specs.Tuned.{tolerated_from, tolerated}
use Rattle.cpg_tune.proofs.tuning.tolerated.Given as goal

-- `found` is the answer for the rows so far, so the rows still to come decide the answer from there
abbrev pub invariant-loop-faults : goal.invariant-loop-faults
invariant-loop-faults l = tolerated l.rows ≡ tolerated_from l.faults l.found (drop l.faults l.rows)
