-- Proof of `generated_are_within_limits`: the graph of every number is within the limits of a graph file.
use Rattle.cpg_gen.proofs.Limits.{within_limits}
use Rattle.cpg_gen.proofs.generated_are_within_limits.Goals as goal

-- `within_limits` of `Limits` says just this
pub returns : goal.returns
returns c = within_limits
