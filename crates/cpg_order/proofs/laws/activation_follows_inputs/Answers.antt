-- Proof of `activation_follows_inputs`: in a graph with a topological order, a process is active by its inputs, and
-- each of these is live by its source.
use Rattle.std.proofs.Common.{arith}
use Rattle.cpg_order.proofs.Acyclic.{activation_is}
use Rattle.cpg_order.proofs.laws.activation_follows_inputs.Goals as goal

-- looking back one edge further finds the same, since an order leaves no way longer than there are processes
pub returns : goal.returns
returns c g order topological values p inside = activation_is g order topological values p (omega arith)
