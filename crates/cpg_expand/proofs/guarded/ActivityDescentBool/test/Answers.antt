-- Proof of `Activity::test`, which returns the tree of where a guard that tests a condition leads to an active leaf,
-- given the trees of its two sides.
use Rattle.cpg_tree.proofs.Forks.{of_answer}
use Rattle.cpg_expand.proofs.GuardTrees.{active_test}
use Rattle.cpg_expand.proofs.guarded.ActivityDescentBool.test.Goals as goal

-- the value of the condition picks the side, as it does in the guard
pub returns-clause-fits : goal.returns-clause-fits
returns-clause-fits c = of_answer c.by_value.result _ _ c.by_value.ensures.picks
    (λ t picks off on of_off of_on. active_test c.args.self.now.problem.now.faults c.args.condition off on c.args.no.now
    c.args.yes.now t of_off of_on picks)
