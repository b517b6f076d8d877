-- Proof of `instances_have_scenarios`: a scenario, seen on an instance, is a scenario of the instance's part.
use Rattle.cpg_hyper.proofs.Keeping.{have_scenarios}
use Rattle.cpg_hyper.proofs.laws.instances_have_scenarios.Goals as goal

-- what a scenario says of an instance is a scenario of its part, by proofs/Keeping.antt
pub returns : goal.returns
returns c = have_scenarios
