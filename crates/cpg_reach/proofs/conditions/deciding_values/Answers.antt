-- Proof of `deciding_values`: returns, for each process, the values of the conditions that decide it in some scenario.
use Rattle.std.proofs.Common.{◌+◌, ◌∙◌, ◌≡◌, sym, ap, subst, length, arith}
use Rattle.cpg_base.specs.Graph.{process_count}
use Rattle.cpg_rules.specs.Guards.{tree_of}
use Rattle.cpg_reach.specs.Tested.{AreDecidingUntil}
use Rattle.cpg_reach.proofs.Testing.{deciding_first, deciding_next, tests_fit, tree_decides}
use Rattle.cpg_reach.proofs.conditions.deciding_values.Goals as goal

-- before the loop there is no process yet, and no set
pub loop-process-init : goal.loop-process-init
loop-process-init c = subst (AreDecidingUntil c.args.admitted.now.graph 0)
    (sym (c.in_ok-reserve.ensures.items ∙ c.new-values.ensures.items)) (deciding_first c.args.admitted.now.graph)

-- each process of the graph has a guard
pub guard_of-requires : goal.guard_of-requires
guard_of-requires c =
    let within = c.loop-process-test.true in
    let count = ap length c.processes.ensures.processes in
    let same = ap (λ p. process_count p) c.problem.ensures.problem in
    let trees = c.guards.ensures.admitted.guards.count in
    let guards = ap (λ g. length g.trees) c.guards.ensures.guards in
    omega arith

-- a guard of an admitted graph tests only conditions, which are below 32
pub tested-requires : goal.tested-requires
tested-requires c = tests_fit c.args.admitted.now.graph c.args.admitted.now.order c.args.admitted.now.guards
    c.guards.ensures.admitted c.guard_of.result.now
    (rw (← c.guards.ensures.guards) c.guard_of.ensures.below)

-- a guard tests just the conditions that decide its process, so their values are those for this process
pub loop-process-preserved : goal.loop-process-preserved
loop-process-preserved c =
    let within = c.loop-process-test.true in
    let count = ap length c.processes.ensures.processes in
    let same = ap (λ p. process_count p) c.problem.ensures.problem in
    subst (AreDecidingUntil c.args.admitted.now.graph (c.loop-process.process + 1)) (sym c.in_ok-push.ensures.items)
    (deciding_next c.args.admitted.now.graph c.loop-process.process c.loop-process.values.items c.tested.result
    (tree_decides c.args.admitted.now.graph c.args.admitted.now.order c.args.admitted.now.guards
    c.guards.ensures.admitted c.loop-process.process (omega arith)
    c.guard_of.result.now (c.guard_of.ensures.tree ∙ ap (λ g. tree_of g c.loop-process.process) c.guards.ensures.guards)
    c.tested.result c.tested.ensures)
    c.loop-process.invariant)

-- the loop is over, so there is a set for each process of the graph
pub returns : goal.returns
returns c =
    let done = c.loop-process-test.false in
    let count = ap length c.processes.ensures.processes in
    let same = ap (λ p. process_count p) c.problem.ensures.problem in
    let at : c.loop-process.process ≡ process_count c.args.admitted.now.graph = omega arith in
    subst (λ n. AreDecidingUntil c.args.admitted.now.graph n c.loop-process.values.items) at c.loop-process.invariant
