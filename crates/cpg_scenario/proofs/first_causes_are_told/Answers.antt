-- Proof of `first_causes_are_told`: a scenario file is rejected for the first cause that is there, and gives a
-- scenario of the graph if none is.
use Rattle.cpg_scenario.proofs.Causes.{first_causes_are_told}
use Rattle.cpg_scenario.proofs.first_causes_are_told.Goals as goal

-- `first_causes_are_told` of `Causes` proves this law
pub returns : goal.returns
returns c = first_causes_are_told
