-- Proof of `graphs_show_first_causes`: a graph is refused for its first cause, in this order: a cycle, too many
-- tracks, two live inputs of a join, a sender without a slot, a message that is too big, a given order that isn't
-- topological.
use Rattle.cpg_laws.proofs.Graphs.{graphs_show_first_causes as law}
use Rattle.cpg_laws.proofs.graphs_show_first_causes.Goals as goal

-- each fault comes with the rules that are looked at before its own, and its cause is the least of its kind; by
-- proofs/Graphs.antt
pub returns : goal.returns
returns c = law
