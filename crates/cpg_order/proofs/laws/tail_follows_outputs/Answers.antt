-- Proof of `tail_follows_outputs`: in a graph with a topological order, the longest way from a process is its
-- execution, and then the longest way on over one of its outputs.
use Rattle.cpg_order.proofs.Acyclic.{tail_is}
use Rattle.cpg_order.proofs.laws.tail_follows_outputs.Goals as goal

-- looking ahead one edge further finds the same, since an order leaves no way longer than there are processes
pub returns : goal.returns
returns c g order topological p inside = tail_is g order topological p inside
