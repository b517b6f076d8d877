-- Proof of `instances_have_edges`: the edges of an instance are the copies of its part's edges.
use Rattle.cpg_hyper.proofs.CopiedEdges.{have_edges}
use Rattle.cpg_hyper.proofs.laws.instances_have_edges.Goals as goal

-- each edge of an instance is the copy of its part's edge, by proofs/CopiedEdges.antt
pub returns : goal.returns
returns c = have_edges
