-- Proof of `tolerated_is_greatest`: the faults that are tolerated are the greatest number whose row is accepted, and
-- `None` exactly if no row is.
use Rattle.cpg_tune.proofs.Tolerating.{tolerated_greatest}
use Rattle.cpg_tune.proofs.tolerated_is_greatest.Goals as goal

-- the walk over the rows keeps the last accepted one
pub returns : goal.returns
returns c = tolerated_greatest
