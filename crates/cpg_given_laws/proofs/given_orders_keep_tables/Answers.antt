-- Proof of `given_orders_keep_tables`: a graph that gives the order of its tables compiles under that order, unless
-- memory runs out, and its tables ask the same in every scenario.
use Rattle.cpg_given_laws.proofs.Kept.{keeps_tables}
use Rattle.cpg_given_laws.proofs.given_orders_keep_tables.Goals as goal

-- the given order is taken, and under it nothing is late and each run is the same; by proofs/Kept.antt
pub returns : goal.returns
returns c = keeps_tables
