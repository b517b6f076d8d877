-- Proof of `generated_are_in_time`: under a topological order no process of the graph of any number ends past its due.
use Rattle.cpg_gen_laws.proofs.Timely.{in_time}
use Rattle.cpg_gen_laws.proofs.generated_are_in_time.Goals as goal

-- the deadline is 10^9, far later than any end; by proofs/Timely.antt
pub returns : goal.returns
returns c = in_time
