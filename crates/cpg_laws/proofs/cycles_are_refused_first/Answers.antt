-- Proof of `cycles_are_refused_first`: a graph is refused for a cycle exactly if it has one, unless memory runs out;
-- and the refusal shows one of its cycles.
use Rattle.cpg_laws.proofs.Graphs.{cycles_are_refused_first as law}
use Rattle.cpg_laws.proofs.cycles_are_refused_first.Goals as goal

-- any other answer comes with a topological order, which leaves no cycle; by proofs/Graphs.antt
pub returns : goal.returns
returns c = law
