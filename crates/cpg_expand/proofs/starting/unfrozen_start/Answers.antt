-- Proof of `unfrozen_start`, which returns the starts of a process that isn't frozen; no time where it is inactive.
-- `wait` says what it waits for on its node, `inputs` are the edges that lead to it, `guard` is its guard, and `active`
-- says where it is active. `TooWide` names the forest's item if a tree on the way has too many leaves.
use Rattle.std.proofs.Common.{subst}
use Rattle.std.specs.Prelude.{IfErr}
use Rattle.cpg_expand.specs.Forest.{ready_by}
use Rattle.cpg_expand.specs.Large.{IsLargeStart, ShowsLarge}
use Rattle.cpg_expand.proofs.starting.unfrozen_start.Goals as goal

-- a tree that is too large on the way down the guard is one on the way to the starts
pub returns-clause-fault : goal.returns-clause-fault
returns-clause-fault c =
    let g = c.args.problem.now in
    let f = c.args.forest.now in
    subst (λ r. IfErr c.start.result
    (ShowsLarge f.wide (IsLargeStart g f (ready_by g f c.args.wait.now) r c.args.inputs.now c.args.guard.now)))
    c.release.ensures c.start.ensures.fault
