-- Proof of `instances_last_as_long`: executions of an instance last as long as those of its part, in what the scenario
-- is for the instance.
use Rattle.cpg_hyper.proofs.Keeping.{last_as_long}
use Rattle.cpg_hyper.proofs.laws.instances_last_as_long.Goals as goal

-- an execution in an instance lasts as long as its part's in that scenario, by proofs/Keeping.antt
pub returns : goal.returns
returns c = last_as_long
