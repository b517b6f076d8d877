-- Proof of `waiting`, which returns from when on a node is ready for a process and has heard what its guard tests.
-- `None` exactly if the guard tests nothing: then the process waits until its node is ready. `TooWide` names the
-- forest's item if a tree on the way has too many leaves.
use Rattle.std.proofs.Common.{◌≡◌, refl, ap, subst, inl, inr}
use Rattle.cpg_expand.specs.Forest.{ForestState, ready_at, ready_by}
use Rattle.cpg_expand.specs.Later.{IsLatest}
use Rattle.cpg_expand.specs.declared.forest.Ready.{Ready}
use Rattle.cpg_expand.proofs.EndTrees.{wait_valued, ready_read}
use Rattle.cpg_expand.specs.Large.{IsLarge, IsLargeHeard, IsLargeWait}
use Rattle.cpg_expand.specs.Waiting.{ready_of}
use Rattle.cpg_expand.proofs.LargeShown.{handed_as, named_as}
use Rattle.cpg_expand.proofs.starting.waiting.Goals as goal

-- the guard tests something, so the wait is over when the node is ready and has heard that
pub returns-in_ok-few-in-Test-clause-wait : goal.returns-in_ok-few-in-Test-clause-wait
returns-in_ok-few-in-Test-clause-wait c =
    let g = c.args.problem.now in
    let f = c.args.forest.now in
    let node = c.args.node in
    let heard = c.in_ok-heard-in-Test.heard in
    let wait = c.in_ok-wait-in-Test.wait in
    -- the forest as the code reads it, list by list
    let inside : ForestState = record {
      times = c.forest.inside.times.items;
      ends = c.forest.inside.ends.items;
      ready = c.forest.inside.ready.items;
      free = c.forest.inside.free.items;
      wide = c.forest.inside.wide;
    } in
    let same : c.index.result.now ≡ ready_at g f node = ready_read g f c.requires.forest inside c.forest.view_is
    c.index.result.now node node c.index.ensures refl c.requires.node in
    wait_valued g f node c.args.guard.now heard wait c.in_ok-heard-in-Test.ensures.heard
    (subst (λ (r : Ready). IsLatest g.faults (ready_by g f r) heard wait) same c.in_ok-wait-in-Test.ensures.both)

-- the tree of when the node is ready has too many leaves, and the wait is made from it
pub returns-in_err-few_ready-clause-fault : goal.returns-in_err-few_ready-clause-fault
returns-in_err-few_ready-clause-fault c =
    handed_as (IsLarge (ready_of c.args.problem.now c.args.forest.now c.args.node))
    (IsLargeWait c.args.problem.now c.args.forest.now c.args.node c.args.guard.now) c.args.forest.now.wide
    c.from_residual.result c.in_err-few_ready.field-0.0 c.from_residual.ensures.1
    (λ x. inl x) c.in_err-few_ready.ensures

-- a tree that is too large on the way to what the guard tests is heard is one on the way to the wait
pub returns-in_err-heard-in-Test-clause-fault : goal.returns-in_err-heard-in-Test-clause-fault
returns-in_err-heard-in-Test-clause-fault c =
    handed_as (IsLargeHeard c.args.problem.now c.args.forest.now c.args.node c.args.guard.now)
    (IsLargeWait c.args.problem.now c.args.forest.now c.args.node c.args.guard.now) c.args.forest.now.wide
    c.from_residual-in_err-heard-in-Test.result c.in_err-heard-in-Test.field-0.0
    c.from_residual-in_err-heard-in-Test.ensures.1 (λ x. inr (inl x)) c.in_err-heard-in-Test.ensures.fault

-- the wait itself, when the node is ready and has heard what the guard tests, has too many leaves
pub returns-in_err-few-in-Test-clause-fault : goal.returns-in_err-few-in-Test-clause-fault
returns-in_err-few-in-Test-clause-fault c =
    let g = c.args.problem.now in
    let f = c.args.forest.now in
    let node = c.args.node in
    let heard = c.in_ok-heard-in-Test.heard in
    let wait = c.in_ok-wait-in-Test.wait in
    -- the forest as the code reads it, list by list
    let inside : ForestState = record {
      times = c.forest.inside.times.items;
      ends = c.forest.inside.ends.items;
      ready = c.forest.inside.ready.items;
      free = c.forest.inside.free.items;
      wide = c.forest.inside.wide;
    } in
    -- the tree that is read is that of when the node is ready
    let same : c.index.result.now ≡ ready_at g f node = ready_read g f c.requires.forest inside c.forest.view_is
    c.index.result.now node node c.index.ensures refl c.requires.node in
    -- with what is heard it makes the wait
    let valued = wait_valued g f node c.args.guard.now heard wait c.in_ok-heard-in-Test.ensures.heard
    (subst (λ (r : Ready). IsLatest g.faults (ready_by g f r) heard wait) same c.in_ok-wait-in-Test.ensures.both) in
    -- so the wait has too many leaves
    handed_as (IsLarge wait) (IsLargeWait g f node c.args.guard.now) f.wide c.from_residual-in_err-few-in-Test.result
    c.in_err-few-in-Test.field-0.0 c.from_residual-in_err-few-in-Test.ensures.1
    (λ x. inr (inr (wait, valued, x)))
    (named_as (IsLarge wait) c.forest.inside.wide f.wide c.in_err-few-in-Test.field-0.0
    (ap (λ (x : ForestState). x.wide) c.forest.view_is) c.in_err-few-in-Test.ensures)
