-- Proof of `ready_after`, which returns from when on the node of a frozen process goes on after it. `active` says where
-- the process is active, and `end` has its ends. The right tree is made only if a later process that isn't frozen waits
-- for the node, since a tree of all that the guard tests can be far wider than the row; otherwise some tree is
-- returned. `TooWide` names the forest's item if a tree on the way has too many leaves.
use Rattle.std.proofs.Common.{◌+◌, ◌≡◌, ◌∙◌, ap, sym, subst}
use Rattle.cpg_base.specs.Graph.{Graph, node_of}
use Rattle.cpg_order.specs.Guard.{Guard}
use Rattle.cpg_rules.specs.Guards.{Guards, tree_of}
use Rattle.cpg_expand.specs.Ending.{goes_on}
use Rattle.cpg_expand.specs.Forest.{ready_by}
use Rattle.cpg_expand.specs.Waited.{IsReadyOnce}
use Rattle.cpg_expand.specs.Waiting.{IsWaitTree}
use Rattle.cpg_expand.specs.declared.forest.Ready.{Ready}
use Rattle.cpg_expand.proofs.ReadyMade.{ready_everywhere}
use Rattle.cpg_base.specs.Order.{place}
use Rattle.cpg_expand.specs.Large.{IsLargeFrozen, IsLargeWait}
use Rattle.cpg_expand.specs.Waited.{IsWaitedFor}
use Rattle.cpg_expand.proofs.LargeShown.{handed_as}
use Rattle.cpg_core.proofs.along.ready_after.Goals as goal

-- the process is active in each scenario, so the node is ready once it has ended, whatever it waited for
pub returns-then-is_true-clause-ready : goal.returns-then-is_true-clause-ready
returns-then-is_true-clause-ready c waited =
    ready_everywhere c.args.admitted.now.graph c.args.forest.now (node_of c.args.admitted.now.graph c.args.process)
    (tree_of c.args.admitted.now.guards c.args.process) c.args.active.now c.args.end.now c.if-is_true.ensures

-- a later process waits for the node, so it is ready after the end or, if the process is inactive, after what it
-- would have waited for
pub returns-clause-ready : goal.returns-clause-ready
returns-clause-ready c waited =
    let h = c.problem-problem.result.now in
    let f = c.args.forest.now in
    let p = c.args.process in
    let found = c.guard_of-guard.result.now in
    let wait = ready_by h f c.wait_for-wait.result.now in
    let then = goes_on c.args.end.now c.in_ok-ready.ready in
    let is_found : found ≡ tree_of c.args.admitted.now.guards p =
    c.guard_of-guard.ensures.tree ∙ ap (λ (x : Guards). tree_of x p) c.guards.ensures.guards in
    -- what has been heard, or else the readiness, is what the process waits for
    let waits : IsWaitTree h f (node_of h p) found wait =
    subst (λ n. IsWaitTree h f n found wait) c.node_of-node.ensures.node
    (subst (λ (r : Ready). IsWaitTree h f c.node_of-node.result found (ready_by h f r))
    (sym c.wait_for-wait.ensures) c.in_ok-heard.ensures.wait) in
    let made : IsReadyOnce h f (node_of h p) found c.args.active.now c.args.end.now then =
    record { wait = wait; waits = waits; is = c.in_ok-ready.ensures.ready } in
    subst (λ (g : Graph). IsReadyOnce g f (node_of g p)
    (tree_of c.args.admitted.now.guards p) c.args.active.now c.args.end.now then) c.problem-problem.ensures.problem
    (subst (λ (k : Guard). IsReadyOnce h f (node_of h p) k c.args.active.now c.args.end.now then) is_found made)

-- a later process waits for the node, so a tree that is too large here is one of what a frozen process would wait for
pub returns-in_err-heard-clause-fault : goal.returns-in_err-heard-clause-fault
returns-in_err-heard-clause-fault c =
    let g = c.args.admitted.now.graph in
    let h = c.problem-problem.result.now in
    let f = c.args.forest.now in
    let p = c.args.process in
    let order = c.args.order.now in
    let found = c.guard_of-guard.result.now in
    let guard = tree_of c.args.admitted.now.guards p in
    -- the guard that is found is the process's own
    let is : found ≡ guard = c.guard_of-guard.ensures.tree ∙ ap (λ (x : Guards). tree_of x p) c.guards.ensures.guards in
    let same = c.problem-problem.ensures.problem in
    let waited : IsWaitedFor g order (place order p + 1) (node_of g p) =
    subst (λ (k : Graph). IsWaitedFor k order (place order p + 1) (node_of k p)) same
    (c.is_waited_for.ensures.by c.if-not-is_waited_for.false) in
    handed_as (IsLargeWait h f c.node_of-node.result found) (IsLargeFrozen g order p f guard) f.wide
    c.from_residual-in_err-heard.result c.in_err-heard.field-0.0 c.from_residual-in_err-heard.ensures.1
    (λ x. (
      waited,
      subst (λ (k : Graph). IsLargeWait k f (node_of k p) guard) same (subst (IsLargeWait h f (node_of h p)) is
          (subst (λ n. IsLargeWait h f n found) c.node_of-node.ensures.node x)),
    ))
    c.in_err-heard.ensures.fault
