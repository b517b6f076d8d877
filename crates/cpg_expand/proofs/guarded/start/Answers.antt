-- Proof of `start`, which returns the starts of a process with a guard; no time where it is inactive. It waits for its
-- node, its release and those of its inputs that the guard's leaf asks for; `wait` says from when on the node is ready
-- for it. `active` says where the guard leads to an active leaf. `TooWide` names the forest's item if a tree on the way
-- has too many leaves.
use Rattle.std.proofs.Common.{inl, inr}
use Rattle.cpg_tree.proofs.Forks.{from_true}
use Rattle.cpg_expand.specs.Forest.{ready_by}
use Rattle.cpg_expand.proofs.StartsWhere.{active_starts}
use Rattle.cpg_expand.specs.Descent.{AreLeaves}
use Rattle.cpg_expand.specs.Guarded.{IsStartTree, WaitsForAll, awaited}
use Rattle.cpg_expand.specs.Large.{IsLargeDown, IsLargeStart, IsLargeWith}
use Rattle.cpg_expand.proofs.LargeShown.{handed_as}
use Rattle.cpg_expand.proofs.guarded.start.Goals as goal

-- each leaf waits for all inputs, so the starts are made only where the guard leads to an active leaf
pub returns-then-is_by_activity-clause-start : goal.returns-then-is_by_activity-clause-start
returns-then-is_by_activity-clause-start c =
    let g = c.args.problem.now in
    let f = c.args.forest.now in
    active_starts g f c.args.active.now
    (ready_by g f c.args.wait.now) c.args.release c.args.inputs.now c.args.guard.now c.in_ok-start.start
    (from_true c.is_by_activity.result c.if-is_by_activity.true c.is_by_activity.ensures) c.requires.actives
    c.in_ok-start.ensures.start

-- a fault on the way of the inputs is one of the starts, as each leaf waits for all of them
pub returns-in_err-start-clause-fault : goal.returns-in_err-start-clause-fault
returns-in_err-start-clause-fault c =
    let g = c.args.problem.now in
    let f = c.args.forest.now in
    let wait = ready_by g f c.args.wait.now in
    let for_all : AreLeaves WaitsForAll c.args.guard.now =
    from_true c.is_by_activity.result c.if-is_by_activity.true c.is_by_activity.ensures in
    handed_as (IsLargeWith g f wait c.args.inputs.now)
    (IsLargeStart g f wait c.args.release c.args.inputs.now c.args.guard.now) f.wide
    c.from_residual.result c.in_err-start.field-0.0 c.from_residual.ensures.1
    (λ x. inl (for_all, x)) c.in_err-start.ensures.fault

-- the inputs are taken at the leaves, so a tree too large on the way down the guard is one on the way to the starts
pub returns-in_err-start-2-clause-fault : goal.returns-in_err-start-2-clause-fault
returns-in_err-start-2-clause-fault c =
    let g = c.args.problem.now in
    let f = c.args.forest.now in
    let wait = ready_by g f c.args.wait.now in
    handed_as (IsLargeDown (λ a. IsLargeWith g f wait (awaited c.args.inputs.now a))
    (IsStartTree g f wait c.args.release c.args.inputs.now) c.args.guard.now)
    (IsLargeStart g f wait c.args.release c.args.inputs.now c.args.guard.now) f.wide
    c.from_residual-in_err-start-2.result c.in_err-start-2.field-0.0 c.from_residual-in_err-start-2.ensures.1
    (λ x. inr x) c.in_err-start-2.ensures.fault
