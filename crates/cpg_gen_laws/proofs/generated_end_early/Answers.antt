-- Proof of `generated_end_early`: under a topological order no process of the graph of any number ends later than
-- 19,720.
use Rattle.cpg_gen_laws.proofs.Timely.{ends_early}
use Rattle.cpg_gen_laws.proofs.generated_end_early.Goals as goal

-- all executions and waits for the bus together take no longer; by proofs/Timely.antt
pub returns : goal.returns
returns c = ends_early
