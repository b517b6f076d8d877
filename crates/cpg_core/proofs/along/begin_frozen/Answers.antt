-- Proof of `begin_frozen`, which adds to the forest the start and the end of a frozen process, and when its node goes
-- on after it, and to `frozen` its frozen time, if it is ever active. Returns the tree of where it is active. `TooWide`
-- names the forest's item if a tree of what it would wait for has too many leaves.
use Rattle.std.proofs.Common.{◌<◌, ◌≡◌, ◌∙◌, ap, sym, subst, length, arith}
use Rattle.cpg_base.specs.Graph.{Graph, process_count, node_of, inputs}
use Rattle.cpg_base.specs.Order.{place}
use Rattle.cpg_order.specs.Guard.{Guard}
use Rattle.cpg_rules.specs.Guards.{Guards, tree_of}
use Rattle.cpg_expand.specs.Begun.{IsFrozenStart}
use Rattle.cpg_tree.specs.GraphTrees.{IsTree}
use Rattle.cpg_expand.specs.Earlier.{AreAlong, IsCut}
use Rattle.cpg_expand.specs.Ending.{IsReadyAfter, goes_on}
use Rattle.cpg_expand.specs.Forest.{HasTrees}
use Rattle.cpg_expand.specs.Waited.{IsReadyIfWaited}
use Rattle.cpg_expand.proofs.BegunMade.{few_here, tests_here, inputs_here, along_here, latest_as, has_begun, begun_made}
use Rattle.cpg_expand.proofs.FrozenFound.{set_count}
use Rattle.cpg_core.proofs.along.begin_frozen.Goals as goal

-- each process of the graph has a guard
pub guard_of-requires : goal.guard_of-requires
guard_of-requires c =
    let trees = c.guards-guards.ensures.admitted.guards.count in
    let guards = ap (λ (x : Guards). length x.trees) c.guards-guards.ensures.guards in
    let within = c.requires.process in
    omega arith

-- an admitted graph has at most 32 conditions
pub active-requires-clause-few : goal.active-requires-clause-few
active-requires-clause-few c = few_here c.args.admitted.now.graph c.args.admitted.now.order c.args.admitted.now.guards
    c.guards-guards.ensures.admitted c.problem-problem.result.now
    c.problem-problem.ensures.problem

-- the guard tests conditions of the graph
pub active-requires-clause-tests : goal.active-requires-clause-tests
active-requires-clause-tests c = tests_here c.args.admitted.now.graph c.args.admitted.now.order
    c.args.admitted.now.guards c.guards-guards.ensures.admitted c.problem-problem.result.now
    c.problem-problem.ensures.problem
    c.guards-guards.result.now c.guards-guards.ensures.guards c.guard_of.result.now c.guard_of.ensures.below

-- the span has the graph, the guards and the order that are given, and these belong together, since the graph is
-- admitted
pub latest_start-requires-clause-along : goal.latest_start-requires-clause-along
latest_start-requires-clause-along c =
    let span = c.span_before-span.result in
    let e = c.span_before-span.ensures in
    let order = c.args.order.now in
    let found = c.guards-guards.result.now in
    subst (λ (g : Graph). AreAlong g span.guards.now span.order.now) (sym e.problem)
    (subst (λ (x : Guards). AreAlong c.problem-problem.result.now x span.order.now) (sym e.guards)
    (subst (λ o. AreAlong c.problem-problem.result.now found o) (sym e.order)
    (along_here c.args.admitted.now.graph c.args.admitted.now.order c.args.admitted.now.guards
    c.guards-guards.ensures.admitted c.problem-problem.result.now c.problem-problem.ensures.problem
    found c.guards-guards.ensures.guards order c.requires.order)))

-- the span is of the same graph, whose forest is given
pub latest_start-requires-clause-forest : goal.latest_start-requires-clause-forest
latest_start-requires-clause-forest c = subst (λ (g : Graph). HasTrees g c.args.forest.now)
    (sym (c.span_before-span.ensures.problem ∙ c.problem-problem.ensures.problem)) c.requires.forest

-- the span is of the same graph, which the tree of the activity is one of
pub latest_start-requires-clause-active : goal.latest_start-requires-clause-active
latest_start-requires-clause-active c = subst (λ (g : Graph). IsTree g c.in_ok-active.active)
    (sym c.span_before-span.ensures.problem) c.in_ok-active.ensures.tree

-- the inputs of the process are edges of the graph
pub latest_start-requires-clause-edges : goal.latest_start-requires-clause-edges
latest_start-requires-clause-edges c =
    inputs_here c.span_before-span.result.problem.now c.args.process c.inputs-inputs.result.now
    (subst (λ (g : Graph). c.inputs-inputs.result.now ≡ inputs g c.args.process)
    (sym c.span_before-span.ensures.problem) c.inputs-inputs.ensures)

-- the span is of the same graph, which has the process
pub latest_start-requires-clause-process : goal.latest_start-requires-clause-process
latest_start-requires-clause-process c = subst (λ (g : Graph). c.args.process < process_count g)
    (sym (c.span_before-span.ensures.problem ∙ c.problem-problem.ensures.problem)) c.requires.process

-- each tree that is put is one of the graph, so there is a tree for each still
pub returns-clause-trees : goal.returns-clause-trees
returns-clause-trees c =
    let same = c.problem-problem.ensures.problem in
    subst (λ (g : Graph). HasTrees g c.put_begun.new.forest) same
    (has_begun c.problem-problem.result.now c.args.forest.now c.put_begun.new.forest c.args.process
    c.node_of-node.result c.in_ok-start.start c.in_ok-end.end c.in_ok-ready.ready
    (subst (λ (g : Graph). c.args.process < process_count g) (sym same) c.requires.process) c.node_of-node.ensures.node
    (subst (λ (g : Graph). HasTrees g c.args.forest.now) (sym same) c.requires.forest) c.in_ok-start.ensures.tree
    c.in_ok-end.ensures.tree
    (subst (λ (g : Graph). IsReadyAfter g c.args.process c.in_ok-ready.ready) (sym same) c.in_ok-ready.ensures.of)
    c.put_begun.ensures)

-- setting the latest start of the process keeps the length of the list
pub returns-clause-count : goal.returns-clause-count
returns-clause-count c = ap length c.in_ok-start.ensures.frozen.set
    ∙ set_count c.args.frozen.now c.args.process c.in_ok-latest.latest ∙ c.requires.frozen

-- the guards and the order are those of the graph
pub span_before-span-requires : goal.span_before-span-requires
span_before-span-requires c = record {
  along = along_here c.args.admitted.now.graph c.args.admitted.now.order c.args.admitted.now.guards
      c.guards-guards.ensures.admitted c.problem-problem.result.now c.problem-problem.ensures.problem
      c.guards-guards.result.now c.guards-guards.ensures.guards c.args.order.now c.requires.order;
}

-- the start at the latest time of all, its end and the readiness behind it are put: so the process has begun
pub returns-clause-begun : goal.returns-clause-begun
returns-clause-begun c =
    let h = c.problem-problem.result.now in
    let f = c.args.forest.now in
    let same = c.problem-problem.ensures.problem in
    let guards = c.args.admitted.now.guards in
    let guard = tree_of guards c.args.process in
    let found = c.guard_of.result.now in
    let is_guards = c.guards-guards.ensures.guards in
    -- the guard that was found is that of the process
    let is_found : found ≡ guard = c.guard_of.ensures.tree ∙ ap (λ (x : Guards). tree_of x c.args.process) is_guards in
    let order = c.args.order.now in
    let p = c.args.process in
    -- the span of the node's processes before it begins at a cut
    let span = c.span_before-span.result in
    let e = c.span_before-span.ensures in
    let cut : IsCut h order guards (node_of h p) span.from (place order p) =
    subst (λ n. IsCut h order guards n span.from (place order p)) c.node_of-node.ensures.node
    (subst (λ n. IsCut h order guards c.node_of-node.result span.from n) c.place.ensures.place
    (subst (λ (x : Guards). IsCut h order x c.node_of-node.result span.from c.place.result) is_guards e.cut)) in
    -- the latest start, said of the graph, the order and the guards
    let top = latest_as f span.from p c.in_ok-active.active c.in_ok-latest.latest h span.problem.now e.problem order
    span.order.now e.order guards span.guards.now (e.guards ∙ is_guards)
    (node_of h p) span.node (e.node ∙ c.node_of-node.ensures.node)
    (inputs h p) c.inputs-inputs.result.now c.inputs-inputs.ensures c.in_ok-latest.ensures in
    -- with these the trees that are put are what is found of a frozen process
    begun_made
    (λ h guard. IsFrozenStart h order guards c.args.process c.args.forest.now c.args.frozen.now c.freeze.new.frozen)
    c.args.admitted.now.graph h same order c.args.process
    guard found is_found c.node_of-node.result c.node_of-node.ensures.node f c.put_begun.new.forest
    c.in_ok-active.active c.in_ok-active.ensures.tree c.in_ok-active.ensures.active
    c.in_ok-start.start (record {
      from = c.span_before-span.result.from;
      cut = cut;
      latest = c.in_ok-latest.latest;
      top = top;
      frozen = c.in_ok-start.ensures.frozen;
    })
    c.in_ok-end.end c.in_ok-end.ensures.end c.in_ok-ready.ready
    (subst (λ (g : Graph). IsReadyAfter g c.args.process c.in_ok-ready.ready) (sym same) c.in_ok-ready.ensures.of)
    (subst (λ (k : Guard). IsReadyIfWaited h order f c.args.process k c.in_ok-active.active c.in_ok-end.end
    (goes_on c.in_ok-end.end c.in_ok-ready.ready)) (sym is_found)
    (subst (λ (g : Graph). IsReadyIfWaited g order f c.args.process guard c.in_ok-active.active c.in_ok-end.end
    (goes_on c.in_ok-end.end c.in_ok-ready.ready)) (sym same) c.in_ok-ready.ensures.ready))
    c.put_begun.ensures
