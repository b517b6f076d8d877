-- Loops of `first_over`, which returns the first part whose deadline, or one of whose releases, is above its period;
-- `None` exactly if there is none.
use Rattle.cpg_base.specs.Limits.{IsWithinLimits}
use Rattle.cpg_hyper.specs.Refusals.{HoldsBefore, FitsPeriod}
use Rattle.cpg_hyper.proofs.fitting.first_over.Given as goal

-- each part before the place fits its period, and its problem is within the limits
abbrev pub invariant-loop-place : goal.invariant-loop-place
invariant-loop-place l = record {
  fits : HoldsBefore (λ p part. FitsPeriod part) l.parts l.place;
  within : HoldsBefore (λ p part. IsWithinLimits part.problem) l.parts l.place;
}
