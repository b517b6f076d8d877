-- Proof of `generated_have_small_loads`: the loads of all items together, which bound the columns of all rows, are at
-- most 514,832 under any order.
use Rattle.cpg_gen_laws.proofs.Narrow.{small_loads}
use Rattle.cpg_gen_laws.proofs.generated_have_small_loads.Goals as goal

-- each item has a bound on its views and on its rows; by proofs/Narrow.antt
pub returns : goal.returns
returns c = small_loads
