-- Proof of `valid_tables_start_instances`: valid tables have a start for each process of an instance that is active.
use Rattle.cpg_hyper.proofs.Keeping.{start_instances}
use Rattle.cpg_hyper.proofs.laws.valid_tables_start_instances.Goals as goal

-- an active process of an instance has a start in valid tables, by proofs/Keeping.antt
pub returns : goal.returns
returns c = start_instances
