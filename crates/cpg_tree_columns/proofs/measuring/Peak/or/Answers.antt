-- Proof of `Peak::or`, which returns the peak with a later process, whose times `tree` has; if it has none, the peak
-- stays.
use Rattle.cpg_base.specs.Graph.{process_count}
use Rattle.cpg_base.proofs.Places.{length_order}
use Rattle.cpg_tree_columns.proofs.measuring.Peak.or.Goals as goal

-- an order of the graph has as many places as there are processes
pub or_time-requires-clause-order : goal.or_time-requires-clause-order
or_time-requires-clause-order c = length_order (process_count c.args.problem.now) c.args.urgency.now c.requires.order
