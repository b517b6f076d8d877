-- Proof of `least_alternatives`: returns the least join that some outcome gives two live inputs, with the least
-- scenario that does, and `None` exactly if no outcome gives a join two.
use Rattle.cpg_base.specs.Graph.{process_count}
use Rattle.cpg_base.proofs.Places.{length_order}
use Rattle.cpg_rules.proofs.Sharing.{roots_stay}
use Rattle.cpg_rules.proofs.SharedSteps.{trees_stay}
use Rattle.cpg_rules.proofs.joins.least_alternatives.Goals as goal

-- a topological order has each process once, so it is as long as there are processes
pub steps_of-requires : goal.steps_of-requires
steps_of-requires c = length_order (process_count c.args.problem.now) c.args.order.now c.requires.topological.all

-- the roots are parts still, since parts are only added
pub least_by-requires-clause-roots : goal.least_by-requires-clause-roots
least_by-requires-clause-roots c = roots_stay c.args.parts.now c.loop-process.parts
    (process_count c.args.problem.now) c.args.roots.now c.loop-process.invariant.more c.requires.roots

-- the trees of the roots are still the guards
pub least_by-requires-clause-guards : goal.least_by-requires-clause-guards
least_by-requires-clause-guards c = trees_stay c.args.problem.now c.args.parts.now c.loop-process.parts c.args.roots.now
    (process_count c.args.problem.now) c.loop-process.invariant.more c.requires.roots c.requires.guards
