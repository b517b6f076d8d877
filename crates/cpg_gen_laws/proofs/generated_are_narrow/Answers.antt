-- Proof of `generated_are_narrow`: nothing in the graph of any number is too wide under any order.
use Rattle.cpg_gen_laws.proofs.Narrow.{narrow}
use Rattle.cpg_gen_laws.proofs.generated_are_narrow.Goals as goal

-- views and loads are below their limits, 16,384 and 524,288; by proofs/Narrow.antt
pub returns : goal.returns
returns c = narrow
