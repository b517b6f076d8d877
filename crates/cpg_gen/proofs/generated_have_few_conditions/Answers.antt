-- Proof of `generated_have_few_conditions`: the graph of every number has at most two conditions.
use Rattle.cpg_gen.proofs.Limits.{few_conditions}
use Rattle.cpg_gen.proofs.generated_have_few_conditions.Goals as goal

-- `few_conditions` of `Limits` says just this
pub returns : goal.returns
returns c = few_conditions
