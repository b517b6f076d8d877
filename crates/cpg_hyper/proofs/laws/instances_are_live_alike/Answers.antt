-- Proof of `instances_are_live_alike`: if the graph of all instances has a topological order, an edge of an instance is
-- live exactly if the part's edge is, in what the scenario is for the instance.
use Rattle.cpg_hyper.proofs.Alike.{live_alike}
use Rattle.cpg_hyper.proofs.laws.instances_are_live_alike.Goals as goal

-- an edge of an instance is live exactly if its part's edge is, by proofs/Alike.antt
pub returns : goal.returns
returns c = live_alike
