-- Loops of `first_out_of_range`, which returns the first part whose period isn't in range; `None` exactly if all are.
use Rattle.cpg_hyper.specs.Refusals.{HoldsBefore, IsInRange}
use Rattle.cpg_hyper.proofs.fitting.first_out_of_range.Given as goal

-- each part before the place is in range
abbrev pub invariant-loop-place : goal.invariant-loop-place
invariant-loop-place l = HoldsBefore (λ p part. IsInRange part) l.parts l.place
