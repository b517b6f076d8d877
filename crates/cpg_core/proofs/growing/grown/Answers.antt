-- Proof of `grown`, which returns the trees of all processes and of what they send, and the frozen times, under an
-- order. If `wide` has an item, leaves are counted: `TooWide` names it if a tree on the way has more than 147,456. If
-- it is `None`, none are counted.
use Rattle.std.proofs.Common.{ℕ, ◌<◌, List, Option, length, get_or, ◌∙◌, arith, sym, ap, subst}
use Rattle.cpg_base.specs.Graph.{Graph, process_count}
use Rattle.cpg_base.proofs.Places.{length_order}
use Rattle.cpg_base.proofs.Standing.{process_within}
use Rattle.cpg_expand.specs.Grown.{IsGrown}
use Rattle.cpg_expand.proofs.GrownLines.{grown_first}
use Rattle.cpg_expand.proofs.Stepped.{next_grown, all_grown}
use Rattle.cpg_expand.specs.Large.{HasLargeTree, IsLargeBegun, IsLargeLeft, ShowsLarge}
use Rattle.cpg_expand.proofs.LargeShown.{handed_as, large_begun, large_left, named_as}
use Rattle.cpg_core.proofs.growing.grown.Goals as goal

-- before the first process the bare trees are grown up to the place 0
pub loop-process-init : goal.loop-process-init
loop-process-init c =
    record {
      wide = c.in_ok-forest.ensures.wide;
      grown = subst (λ (g : Graph). IsGrown g c.args.order.now 0 c.in_ok-frozen.frozen c.in_ok-forest.forest)
          c.problem-problem.ensures.problem
          (subst (λ (frozen : List (Option ℕ)). IsGrown c.problem-problem.result.now c.args.order.now 0 frozen
          c.in_ok-forest.forest) (sym c.in_ok-frozen.ensures)
          (grown_first c.problem-problem.result.now c.args.order.now c.in_ok-forest.forest c.in_ok-forest.ensures.trees
          c.in_ok-forest.ensures.bare));
    }

-- what stands at a place of the order is a process
pub step-requires-clause-process : goal.step-requires-clause-process
step-requires-clause-process c =
    let same = c.processes-process-items.ensures.processes in
    let long = length_order (process_count c.args.admitted.now.graph) c.args.order.now c.requires.topological.all in
    let w = process_within c.args.order.now c.processes-process-items.ensures.order c.loop-process.process-index
    (omega (arith, ap length same, c.loop-process-test.true)) in
    omega (arith, ap (λ xs. get_or xs c.loop-process.process-index 0) same)

-- the process at this place is gone over, so the trees are grown up to the next place
pub loop-process-preserved : goal.loop-process-preserved
loop-process-preserved c =
    let same = c.processes-process-items.ensures.processes in
    let k = c.loop-process.process-index in
    record {
      wide = c.in_ok-step.ensures.wide ∙ c.loop-process.invariant.wide;
      grown = next_grown c.args.admitted.now.graph c.args.order.now c.requires.topological
          c.processes-process-items.ensures.order k (get_or c.processes-process-items.result.now k 0)
          (omega (arith, ap length same, c.loop-process-test.true)) (ap (λ xs. get_or xs k 0) same)
          c.loop-process.forest c.step.new.forest c.loop-process.frozen c.step.new.frozen c.loop-process.invariant.grown
          c.in_ok-step.ensures.grown;
    }

-- all processes are gone over, so the trees are grown along the whole order
pub returns-clause-grown : goal.returns-clause-grown
returns-clause-grown c =
    all_grown c.args.admitted.now.graph c.args.order.now c.requires.topological c.loop-process.process-index
    (omega (
      arith,
      ap length c.processes-process-items.ensures.processes,
      c.loop-process-test.false,
      c.loop-process.auto.process-index-end,
    )) c.loop-process.frozen c.loop-process.forest
    c.loop-process.invariant.grown

-- a topological order has each process once, so its length is the number of processes
pub step-requires-clause-order : goal.step-requires-clause-order
step-requires-clause-order c =
    length_order (process_count c.args.admitted.now.graph) c.args.order.now c.requires.topological.all

-- a topological order has each process once, so its length is the number of processes
pub few_left-requires-clause-order : goal.few_left-requires-clause-order
few_left-requires-clause-order c =
    length_order (process_count c.args.admitted.now.graph) c.args.order.now c.requires.topological.all
    ∙ ap process_count (sym c.problem-problem.ensures.problem)

-- what stands at a place of the order is a process
pub few_left-requires-clause-process : goal.few_left-requires-clause-process
few_left-requires-clause-process c =
    let k = c.loop-process.process-index in
    let same = c.processes-process-items.ensures.processes in
    let long = length_order (process_count c.args.admitted.now.graph) c.args.order.now c.requires.topological.all in
    let within = process_within c.args.order.now c.processes-process-items.ensures.order k
    (omega (arith, ap length same, c.loop-process-test.true)) in
    omega (arith, ap (λ xs. get_or xs k 0) same, within, long, ap process_count c.problem-problem.ensures.problem)

-- a fault on the way of this process shows a tree that is too large somewhere along the order
pub returns-in_err-step-clause-fault : goal.returns-in_err-step-clause-fault
returns-in_err-step-clause-fault c =
    let g = c.args.admitted.now.graph in
    let urgency = c.args.admitted.now.order in
    let guards = c.args.admitted.now.guards in
    let order = c.args.order.now in
    let same = c.processes-process-items.ensures.processes in
    let k = c.loop-process.process-index in
    let p = get_or c.processes-process-items.result.now k 0 in
    let f = c.loop-process.forest in
    let fault = c.in_err-step.field-0.0 in
    -- the process at this place of the order
    let within = process_within order c.processes-process-items.ensures.order k
    (omega (arith, ap length same, c.loop-process-test.true)) in
    let long = length_order (process_count g) order c.requires.topological.all in
    let below : p < process_count g = omega (arith, ap (λ xs. get_or xs k 0) same, within, long) in
    -- a tree that is too large on its way is one along the order
    handed_as (IsLargeBegun g order guards p f) (HasLargeTree g urgency order) c.args.wide
    c.from_residual-in_err-step.result fault c.from_residual-in_err-step.ensures.1
    (λ x. large_begun g urgency guards c.problem-problem.ensures.admitted.guards order
    c.processes-process-items.ensures.order k p (omega (arith, ap length same, c.loop-process-test.true))
    (ap (λ xs. get_or xs k 0) same)
    c.loop-process.frozen f below c.loop-process.invariant.grown x)
    (named_as (IsLargeBegun g order guards p f) f.wide c.args.wide fault c.loop-process.invariant.wide
    c.in_err-step.ensures.fault)

-- a fault in what this process leaves shows a tree that is too large somewhere along the order
pub returns-in_err-few_left-clause-fault : goal.returns-in_err-few_left-clause-fault
returns-in_err-few_left-clause-fault c =
    let g = c.args.admitted.now.graph in
    let urgency = c.args.admitted.now.order in
    let guards = c.args.admitted.now.guards in
    let order = c.args.order.now in
    let same = c.processes-process-items.ensures.processes in
    let k = c.loop-process.process-index in
    let p = get_or c.processes-process-items.result.now k 0 in
    let f = c.step.new.forest in
    let fault = c.in_err-few_left.field-0.0 in
    let here = c.problem-problem.ensures.problem in
    -- the process at this place of the order
    let within = process_within order c.processes-process-items.ensures.order k
    (omega (arith, ap length same, c.loop-process-test.true)) in
    let long = length_order (process_count g) order c.requires.topological.all in
    let below : p < process_count g = omega (arith, ap (λ xs. get_or xs k 0) same, within, long) in
    -- the trees are grown up to the next place
    let grown = next_grown g order c.requires.topological c.processes-process-items.ensures.order k p
    (omega (arith, ap length same, c.loop-process-test.true)) (ap (λ xs. get_or xs k 0) same)
    c.loop-process.forest f c.loop-process.frozen c.step.new.frozen c.loop-process.invariant.grown
    c.in_ok-step.ensures.grown in
    -- a tree that is too large among what the process leaves is one along the order
    handed_as (IsLargeLeft g order p f) (HasLargeTree g urgency order) c.args.wide
    c.from_residual-in_err-few_left.result fault c.from_residual-in_err-few_left.ensures.1
    (λ x. large_left g urgency guards c.problem-problem.ensures.admitted.guards order
    c.processes-process-items.ensures.order k p (omega (arith, ap length same, c.loop-process-test.true))
    (ap (λ xs. get_or xs k 0) same)
    c.step.new.frozen f (c.problem-problem.ensures.admitted.limits.processes p _ below).node grown x)
    (named_as (IsLargeLeft g order p f) f.wide c.args.wide fault
    (c.in_ok-step.ensures.wide ∙ c.loop-process.invariant.wide)
    (subst (λ (h : Graph). ShowsLarge f.wide (IsLargeLeft h order p f) fault) here c.in_err-few_left.ensures))
