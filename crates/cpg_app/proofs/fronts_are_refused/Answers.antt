-- Proof of `fronts_are_refused`: if what `compile` wrote is cut short anywhere, each command that reads packs
-- rejects it, at the place where it ends.
use Rattle.cpg_app.proofs.Fronts.{fronts_are_refused}
use Rattle.cpg_app.proofs.fronts_are_refused.Goals as goal

-- `fronts_are_refused` of `Fronts` proves this law
pub returns : goal.returns
returns c = fronts_are_refused
