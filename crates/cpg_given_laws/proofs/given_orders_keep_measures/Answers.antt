-- Proof of `given_orders_keep_measures`: how late a graph is under an order doesn't depend on the order that it gives:
-- the greatest excess and the greatest finish are the same.
use Rattle.cpg_given_laws.proofs.Kept.{same_measures}
use Rattle.cpg_given_laws.proofs.given_orders_keep_measures.Goals as goal

-- no run looks at the order that the graph gives; by proofs/Kept.antt
pub returns : goal.returns
returns c = same_measures
