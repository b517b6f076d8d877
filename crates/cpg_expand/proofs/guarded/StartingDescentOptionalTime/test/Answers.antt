-- Proof of `Starting::test`, which returns the tree of the starts of a process whose guard tests a condition, given the
-- trees of the guard's two sides.
use Rattle.cpg_tree.proofs.Forks.{of_answer}
use Rattle.cpg_expand.specs.Forest.{ready_by}
use Rattle.cpg_expand.proofs.GuardTrees.{start_test}
use Rattle.cpg_expand.proofs.guarded.StartingDescentOptionalTime.test.Goals as goal

-- the value of the condition picks the starts of one side
pub returns-clause-fits : goal.returns-clause-fits
returns-clause-fits c = of_answer c.by_value.result _ _ c.by_value.ensures.picks
    (λ t picks off on of_off of_on. start_test c.args.self.now.problem.now c.args.self.now.forest.now
    (ready_by c.args.self.now.problem.now c.args.self.now.forest.now c.args.self.now.wait.now) c.args.self.now.release
    c.args.self.now.inputs.now
    c.args.condition off on c.args.no.now c.args.yes.now t of_off of_on picks)
