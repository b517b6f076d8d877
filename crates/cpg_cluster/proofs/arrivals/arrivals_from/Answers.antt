-- Proof of `arrivals_from`, which returns the arrival times in the hear rows of sender `other`, by time; `senders` has the
-- sender of each row.
use Rattle.std.proofs.lemmas.List.Sorted.{IsNonDecreasingBy-from_sort}
use Rattle.cpg_cluster.proofs.arrivals.arrivals_from.Goals as goal

-- sorted times don't fall
pub returns-clause-rises : goal.returns-clause-rises
returns-clause-rises c = IsNonDecreasingBy-from_sort (λ x. x) _ c.sort_unstable.ensures.sorted
