-- Proof of `start_by`, which returns the starts of a process with this activation: no time if it is inactive, and
-- otherwise, at its release or later, when its node is ready, which `wait` says, and all inputs, or the one that the
-- activation names, are there. `TooWide` names the forest's item if a tree of the wait with some of the inputs has too
-- many leaves.
use Rattle.std.proofs.Common.{sym, subst, refl}
use Rattle.cpg_base.specs.declared.activation.Activation.{Activation}
use Rattle.cpg_base.specs.declared.activation.Activation.TheVariants.{Plain, By}
use Rattle.cpg_expand.specs.Forest.{ready_by}
use Rattle.cpg_expand.specs.Guarded.{IsStartBy}
use Rattle.cpg_expand.proofs.GuardTrees.{start_active, no_start}
use Rattle.cpg_expand.proofs.guarded.start_by.Goals as goal

-- a plain activation waits for all inputs
pub returns-in_ok-start-in-Plain-clause-start : goal.returns-in_ok-start-in-Plain-clause-start
returns-in_ok-start-in-Plain-clause-start c =
    subst (λ (a : Activation). IsStartBy c.args.problem.now c.args.forest.now
    (ready_by c.args.problem.now c.args.forest.now c.args.wait.now) c.args.release c.args.inputs.now a
    c.in_ok-start-in-Plain.start) (sym c.in-Plain.is)
    (start_active c.args.problem.now c.args.forest.now (ready_by c.args.problem.now c.args.forest.now c.args.wait.now)
    c.in_ok-start-in-Plain.start c.args.release c.args.inputs.now Plain refl
    c.in_ok-start-in-Plain.ensures.start)

-- an activation by an input waits for that one alone
pub returns-in_ok-start-in-By-clause-start : goal.returns-in_ok-start-in-By-clause-start
returns-in_ok-start-in-By-clause-start c =
    subst (λ (a : Activation). IsStartBy c.args.problem.now c.args.forest.now
    (ready_by c.args.problem.now c.args.forest.now c.args.wait.now) c.args.release c.args.inputs.now a
    c.in_ok-start-in-By.start) (sym c.in-By.is)
    (start_active c.args.problem.now c.args.forest.now (ready_by c.args.problem.now c.args.forest.now c.args.wait.now)
    c.in_ok-start-in-By.start c.args.release c.args.inputs.now
    (By c.in-By.edge) refl c.in_ok-start-in-By.ensures.start)

-- an inactive process has no start
pub returns-in_ok-never-in-Inactive-clause-start : goal.returns-in_ok-never-in-Inactive-clause-start
returns-in_ok-never-in-Inactive-clause-start c =
    subst (λ (a : Activation). IsStartBy c.args.problem.now c.args.forest.now
    (ready_by c.args.problem.now c.args.forest.now c.args.wait.now) c.args.release c.args.inputs.now a
    c.in_ok-never-in-Inactive.never) (sym c.in-Inactive.is)
    (no_start c.args.problem.now c.args.forest.now (ready_by c.args.problem.now c.args.forest.now c.args.wait.now)
    c.args.release c.args.inputs.now c.in_ok-never-in-Inactive.never c.in_ok-never-in-Inactive.ensures.none)
