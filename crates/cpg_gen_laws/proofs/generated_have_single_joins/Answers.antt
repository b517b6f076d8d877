-- Proof of `generated_have_single_joins`: no outcome makes two inputs of a join live in the graph of any number.
use Rattle.cpg_gen_laws.proofs.Kept.{single_joins}
use Rattle.cpg_gen_laws.proofs.generated_have_single_joins.Goals as goal

-- the one join has two inputs, one for each value of one condition, so only one is live; by proofs/Kept.antt
pub returns : goal.returns
returns c = single_joins
