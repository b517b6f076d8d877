-- Loops of `first_with_order`, which returns the first part whose graph gives an order to compile under; `None` exactly
-- if there is none.
use Rattle.cpg_hyper.specs.Refusals.{HoldsBefore, GivesNoOrder}
use Rattle.cpg_hyper.proofs.fitting.first_with_order.Given as goal

-- no part before the place gives an order
abbrev pub invariant-loop-place : goal.invariant-loop-place
invariant-loop-place l = HoldsBefore (λ p part. GivesNoOrder part) l.parts l.place
