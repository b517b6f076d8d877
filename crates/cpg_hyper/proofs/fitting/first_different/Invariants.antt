-- Loops of `first_different`, which returns the first part with other faults, nodes or slots than a graph; `None`
-- exactly if no part has others.
use Rattle.cpg_hyper.specs.Refusals.{HoldsBefore, IsAlike}
use Rattle.cpg_hyper.proofs.fitting.first_different.Given as goal

-- each part before the place has the faults, nodes and slots of the first one
abbrev pub invariant-loop-place : goal.invariant-loop-place
invariant-loop-place l = HoldsBefore (λ p part. IsAlike l.first part) l.parts l.place
