-- Proof of `ready`, which returns from when on the node of a process goes on after it: its end where `active` is true,
-- and elsewhere when its wait would be over. `end` has the ends of the process, and `wait` says what it waits for on
-- its node. If it is always active, the answer is `After` it, and no tree is made.
use Rattle.cpg_expand.specs.Forest.{ready_by}
use Rattle.cpg_expand.proofs.EndTrees.{ready_always}
use Rattle.cpg_expand.proofs.ending.ready.Goals as goal

-- the process is active in each scenario, so the node is ready at its end
pub returns-then-is_true-clause-ready : goal.returns-then-is_true-clause-ready
returns-then-is_true-clause-ready c = ready_always c.args.problem.now c.args.active.now c.args.end.now
    (ready_by c.args.problem.now c.args.forest.now c.args.wait.now) c.if-is_true.ensures
