-- Proof of `times_of`: all times of a table, in order.
use Rattle.std.proofs.lemmas.List.Sorted.{IsNonDecreasingBy-from_sort}
use Rattle.cpg_node.proofs.plan.times_of.Goals as goal

-- sorting leaves the times in order
pub returns-clause-rises : goal.returns-clause-rises
returns-clause-rises c = IsNonDecreasingBy-from_sort (λ x. x) _ c.sort_unstable.ensures.sorted
