-- Proof of `generated_edges_rise`: in the graph of every number each edge leads to a process with a greater number, so
-- there is no cycle.
use Rattle.cpg_gen.proofs.Limits.{edges_rise}
use Rattle.cpg_gen.proofs.generated_edges_rise.Goals as goal

-- `edges_rise` of `Limits` says just this
pub returns : goal.returns
returns c = edges_rise
