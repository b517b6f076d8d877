-- Proof of `begin_thawed`, which adds to the forest the start and the end of a process that isn't frozen, and when its
-- node goes on after it. Returns the tree of where it is active. `TooWide` names the forest's item if a tree on the way
-- has too many leaves.
use Rattle.std.proofs.Common.{◌<◌, ◌≡◌, ◌∙◌, ap, sym, subst, length, arith, inl, inr}
use Rattle.cpg_base.specs.Graph.{Graph, process_count, process_at, node_of}
use Rattle.cpg_rules.specs.Guards.{Guards, tree_of}
use Rattle.cpg_expand.specs.Begun.{thawed_start}
use Rattle.cpg_expand.specs.Forest.{HasTrees, IsWait, ready_by}
use Rattle.cpg_expand.specs.Guarded.{IsStartTree}
use Rattle.cpg_expand.specs.Waiting.{IsWaitTree}
use Rattle.cpg_expand.specs.declared.forest.Ready.{Ready}
use Rattle.cpg_expand.proofs.BegunMade.{few_here, tests_here, leads_here, inputs_here, has_begun, begun_made}
use Rattle.cpg_order.specs.Guard.{Guard}
use Rattle.cpg_expand.specs.Large.{IsLargeEnd, IsLargeStart, IsLargeThawed, IsLargeWait}
use Rattle.cpg_expand.proofs.LargeShown.{handed_as, thawed_as}
use Rattle.cpg_core.proofs.along.begin_thawed.Goals as goal

-- each process of the graph has a guard
pub guard_of-guard-requires : goal.guard_of-guard-requires
guard_of-guard-requires c =
    let trees = c.guards.ensures.admitted.guards.count in
    let guards = ap (λ (x : Guards). length x.trees) c.guards.ensures.guards in
    let within = c.requires.process in
    omega arith

-- an admitted graph has at most 32 conditions
pub active-requires-clause-few : goal.active-requires-clause-few
active-requires-clause-few c = few_here c.args.admitted.now.graph c.args.admitted.now.order c.args.admitted.now.guards
    c.guards.ensures.admitted c.problem-problem.result.now
    c.problem-problem.ensures.problem

-- the guard tests conditions of the graph
pub active-requires-clause-tests : goal.active-requires-clause-tests
active-requires-clause-tests c = tests_here c.args.admitted.now.graph c.args.admitted.now.order
    c.args.admitted.now.guards c.guards.ensures.admitted c.problem-problem.result.now
    c.problem-problem.ensures.problem
    c.guards.result.now c.guards.ensures.guards c.guard_of-guard.result.now c.guard_of-guard.ensures.below

-- the inputs of the process are edges of the graph
pub unfrozen_start-requires-clause-inputs : goal.unfrozen_start-requires-clause-inputs
unfrozen_start-requires-clause-inputs c =
    inputs_here c.problem-problem.result.now c.args.process c.inputs-inputs.result.now c.inputs-inputs.ensures

-- the leaves of the guard lead to edges of the graph
pub unfrozen_start-requires-clause-leaves : goal.unfrozen_start-requires-clause-leaves
unfrozen_start-requires-clause-leaves c = leads_here c.args.admitted.now.graph c.args.admitted.now.order
    c.args.admitted.now.guards c.guards.ensures.admitted c.problem-problem.result.now
    c.problem-problem.ensures.problem
    c.args.process c.requires.process c.guard_of-guard.result.now
    (c.guard_of-guard.ensures.tree ∙ ap (λ (x : Guards). tree_of x c.args.process) c.guards.ensures.guards)

-- the wait is the one by what has been heard, which is one of the graph
pub unfrozen_start-requires-clause-wait : goal.unfrozen_start-requires-clause-wait
unfrozen_start-requires-clause-wait c =
    subst (IsWait c.problem-problem.result.now) (sym c.wait_for-wait.ensures) c.in_ok-heard.ensures.of

-- each tree that is put is one of the graph, so there is a tree for each still
pub returns-clause-trees : goal.returns-clause-trees
returns-clause-trees c =
    let same = c.problem-problem.ensures.problem in
    subst (λ (g : Graph). HasTrees g c.put_begun.new.forest) same
    (has_begun c.problem-problem.result.now c.args.forest.now c.put_begun.new.forest c.args.process
    c.node_of-node.result c.in_ok-start.start c.in_ok-next.next.end c.in_ok-next.next.ready
    (subst (λ (g : Graph). c.args.process < process_count g) (sym same) c.requires.process) c.node_of-node.ensures.node
    (subst (λ (g : Graph). HasTrees g c.args.forest.now) (sym same) c.requires.forest) c.in_ok-start.ensures.tree
    c.in_ok-next.ensures.tree c.in_ok-next.ensures.of c.put_begun.ensures)

-- the start after all that the process waits for, its end and the readiness behind it are put: so the process has
-- begun
pub returns-clause-begun : goal.returns-clause-begun
returns-clause-begun c order =
    let h = c.problem-problem.result.now in
    let f = c.args.forest.now in
    let wait = ready_by h f c.wait_for-wait.result.now in
    -- what has been heard, or else the readiness, is what the process waits for
    let waits : IsWaitTree h f (node_of h c.args.process) c.guard_of-guard.result.now wait =
    subst (λ n. IsWaitTree h f n c.guard_of-guard.result.now wait) c.node_of-node.ensures.node
    (subst (λ (r : Ready). IsWaitTree h f c.node_of-node.result c.guard_of-guard.result.now (ready_by h f r))
    (sym c.wait_for-wait.ensures) c.in_ok-heard.ensures.wait) in
    -- with this wait the trees that are put are what is found of a process that isn't frozen
    begun_made (λ h guard. thawed_start h c.args.process c.args.forest.now guard) c.args.admitted.now.graph h
    c.problem-problem.ensures.problem order c.args.process
    (tree_of c.args.admitted.now.guards c.args.process) c.guard_of-guard.result.now
    (c.guard_of-guard.ensures.tree ∙ ap (λ (x : Guards). tree_of x c.args.process) c.guards.ensures.guards)
    c.node_of-node.result c.node_of-node.ensures.node f c.put_begun.new.forest c.in_ok-active.active
    c.in_ok-active.ensures.tree c.in_ok-active.ensures.active
    c.in_ok-start.start (record {
      wait = wait;
      waits = waits;
      is = subst (λ es. IsStartTree h f wait (process_at h c.args.process).release es c.guard_of-guard.result.now
          c.in_ok-start.start) c.inputs-inputs.ensures c.in_ok-start.ensures.start;
    })
    c.in_ok-next.next.end c.in_ok-next.ensures.end c.in_ok-next.next.ready c.in_ok-next.ensures.of
    (λ waited. record { wait = wait; waits = waits; is = c.in_ok-next.ensures.ready }) c.put_begun.ensures

-- the wait is the one by what has been heard, which is one of the graph
pub end_and_ready-requires-clause-wait : goal.end_and_ready-requires-clause-wait
end_and_ready-requires-clause-wait c =
    subst (IsWait c.problem-problem.result.now) (sym c.wait_for-wait.ensures) c.in_ok-heard.ensures.of

-- a tree that is too large on the way to the wait is one on the way of a process that isn't frozen
pub returns-in_err-heard-clause-fault : goal.returns-in_err-heard-clause-fault
returns-in_err-heard-clause-fault c =
    let h = c.problem-problem.result.now in
    let f = c.args.forest.now in
    let p = c.args.process in
    let found = c.guard_of-guard.result.now in
    let guard = tree_of c.args.admitted.now.guards p in
    -- the guard that is found is the process's own
    let is : found ≡ guard = c.guard_of-guard.ensures.tree ∙ ap (λ (x : Guards). tree_of x p) c.guards.ensures.guards in
    handed_as (IsLargeWait h f c.node_of-node.result found) (IsLargeThawed c.args.admitted.now.graph p f guard) f.wide
    c.from_residual-in_err-heard.result c.in_err-heard.field-0.0
    c.from_residual-in_err-heard.ensures.1
    (λ x. thawed_as c.args.admitted.now.graph h c.problem-problem.ensures.problem p f guard found is
    (inl (subst (λ n. IsLargeWait h f n found) c.node_of-node.ensures.node x)))
    c.in_err-heard.ensures.fault

-- the wait is made, and a tree that is too large on the way to the starts is one made from it
pub returns-in_err-start-clause-fault : goal.returns-in_err-start-clause-fault
returns-in_err-start-clause-fault c =
    let h = c.problem-problem.result.now in
    let f = c.args.forest.now in
    let p = c.args.process in
    let found = c.guard_of-guard.result.now in
    let guard = tree_of c.args.admitted.now.guards p in
    -- the guard that is found is the process's own
    let is : found ≡ guard = c.guard_of-guard.ensures.tree ∙ ap (λ (x : Guards). tree_of x p) c.guards.ensures.guards in
    let wait = ready_by h f c.wait_for-wait.result.now in
    -- what has been heard, or else the readiness, is what the process waits for
    let waits : IsWaitTree h f (node_of h p) found wait =
    subst (λ n. IsWaitTree h f n found wait) c.node_of-node.ensures.node
    (subst (λ (r : Ready). IsWaitTree h f c.node_of-node.result found (ready_by h f r))
    (sym c.wait_for-wait.ensures) c.in_ok-heard.ensures.wait) in
    handed_as (IsLargeStart h f wait (process_at h p).release c.inputs-inputs.result.now found)
    (IsLargeThawed c.args.admitted.now.graph p f guard) f.wide c.from_residual-in_err-start.result
    c.in_err-start.field-0.0 c.from_residual-in_err-start.ensures.1
    (λ x. thawed_as c.args.admitted.now.graph h c.problem-problem.ensures.problem p f guard found is (inr (record {
      wait = wait;
      waits = waits;
      large = inl (subst (λ es. IsLargeStart h f wait (process_at h p).release es found) c.inputs-inputs.ensures x);
    }))) c.in_err-start.ensures.fault

-- the wait and the starts are made, and a tree of the starts or the ends that is too large is one made from the wait
pub returns-in_err-next-clause-fault : goal.returns-in_err-next-clause-fault
returns-in_err-next-clause-fault c =
    let h = c.problem-problem.result.now in
    let f = c.args.forest.now in
    let p = c.args.process in
    let found = c.guard_of-guard.result.now in
    let guard = tree_of c.args.admitted.now.guards p in
    -- the guard that is found is the process's own
    let is : found ≡ guard = c.guard_of-guard.ensures.tree ∙ ap (λ (x : Guards). tree_of x p) c.guards.ensures.guards in
    let start = c.in_ok-start.start in
    let wait = ready_by h f c.wait_for-wait.result.now in
    -- what has been heard, or else the readiness, is what the process waits for
    let waits : IsWaitTree h f (node_of h p) found wait =
    subst (λ n. IsWaitTree h f n found wait) c.node_of-node.ensures.node
    (subst (λ (r : Ready). IsWaitTree h f c.node_of-node.result found (ready_by h f r))
    (sym c.wait_for-wait.ensures) c.in_ok-heard.ensures.wait) in
    -- so the tree that is too large is one on the way to the start and the end
    handed_as (IsLargeEnd h p start) (IsLargeThawed c.args.admitted.now.graph p f guard) f.wide
    c.from_residual-in_err-next.result c.in_err-next.field-0.0 c.from_residual-in_err-next.ensures.1
    (λ x. thawed_as c.args.admitted.now.graph h c.problem-problem.ensures.problem p f guard found is (inr (record {
      wait = wait;
      waits = waits;
      large = inr (
        start,
        subst (λ es. IsStartTree h f wait (process_at h p).release es found start) c.inputs-inputs.ensures
            c.in_ok-start.ensures.start,
        x,
      );
    }))) c.in_err-next.ensures.fault
