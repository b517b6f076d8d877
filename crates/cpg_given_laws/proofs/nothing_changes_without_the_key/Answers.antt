-- Proof of `nothing_changes_without_the_key`: a compile answers the same for a graph that gives no order as if there
-- were no key `order`.
use Rattle.cpg_given_laws.proofs.Without.{nothing_changes_without_the_key}
use Rattle.cpg_given_laws.proofs.nothing_changes_without_the_key.Goals as goal

-- without a given order the first order is the urgency order; by proofs/Without.antt
pub returns : goal.returns
returns c = nothing_changes_without_the_key
