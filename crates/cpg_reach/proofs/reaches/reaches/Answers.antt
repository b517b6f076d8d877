-- Proof of `reaches`: returns, for each item, the variables that its time may depend on under the order.
use Rattle.std.proofs.Common.{◌+◌, ap, ap₂, get_or, length, arith}
use Rattle.cpg_base.specs.Graph.{process_count, item_count}
use Rattle.cpg_base.proofs.Places.{length_order}
use Rattle.cpg_base.proofs.Standing.{process_within}
use Rattle.cpg_reach.proofs.Walks.{walk_starts, step_in, step_out, all_reached}
use Rattle.cpg_reach.proofs.reaches.reaches.Goals as goal

-- all sets are empty, which is right before the first process: nothing is reached, waited for or sent yet
pub loop-process-init : goal.loop-process-init
loop-process-init c =
    let same = ap₂ (λ n m. n + m) (ap length c.processes.ensures.processes) (ap length c.edges.ensures.edges) in
    let at = ap (λ g. item_count g) c.problem-problem.ensures.problem in
    walk_starts c.args.admitted.now.graph c.args.order.now c.requires _ _ c.in_ok-empty_sets.field-0.items
    c.in_ok-empty_sets-2.field-0.items c.in_ok-empty_sets-3.field-0.items
    (let count_is = c.conditions.ensures.count in
    omega arith) (let nodes_are = ap (λ g. length g.nodes) c.problem-problem.ensures.problem in
    omega (arith, ap length c.nodes-nodes.ensures.nodes))
    c.in_ok-empty_sets.ensures c.in_ok-empty_sets-2.ensures c.in_ok-empty_sets-3.ensures

-- what stands at a place of the order is a process
pub settle_process-requires-clause-process : goal.settle_process-requires-clause-process
settle_process-requires-clause-process c =
    let same = c.processes-process-items.ensures.processes in
    let long = length_order (process_count c.args.admitted.now.graph) c.args.order.now c.requires.all in
    let within = process_within c.args.order.now c.processes-process-items.ensures.order c.loop-process.process-index
    (omega (arith, ap length same)) in
    omega (
      arith,
      ap (λ xs. get_or xs c.loop-process.process-index 0) same,
      ap (λ g. process_count g) c.problem-problem.ensures.problem,
    )

-- the process is the next along the order, so the walk has come to its place
pub settle_process-requires-clause-walked : goal.settle_process-requires-clause-walked
settle_process-requires-clause-walked c =
    let same = c.processes-process-items.ensures.processes in
    step_in c.args.admitted.now.graph c.args.order.now c.requires c.problem-problem.result.now
    c.problem-problem.ensures.problem c.processes-process-items.ensures.order c.loop-process.process-index
    (get_or c.processes-process-items.result.now c.loop-process.process-index 0) (omega (arith, ap length same))
    (ap (λ xs. get_or xs c.loop-process.process-index 0) same)
    c.loop-process.walk.reaches.items c.loop-process.walk.known.items c.loop-process.walk.sent.items
    c.loop-process.invariant

-- the process and all that it sends are settled, so the walk has come to the next place
pub loop-process-preserved : goal.loop-process-preserved
loop-process-preserved c =
    let same = c.processes-process-items.ensures.processes in
    step_out c.args.admitted.now.graph c.args.order.now c.requires c.problem-problem.result.now
    c.problem-problem.ensures.problem c.processes-process-items.ensures.order c.loop-process.process-index
    (get_or c.processes-process-items.result.now c.loop-process.process-index 0) (omega (arith, ap length same))
    (ap (λ xs. get_or xs c.loop-process.process-index 0) same)
    c.settle_process.new.walk.reaches.items c.settle_process.new.walk.known.items c.settle_process.new.walk.sent.items
    c.settle_process.ensures

-- the walk has come to the end, so the reach of each item is found
pub returns : goal.returns
returns c =
    let same = c.processes-process-items.ensures.processes in
    let done = c.loop-process-test.false in
    let long = length_order (process_count c.args.admitted.now.graph) c.args.order.now c.requires.all in
    all_reached c.args.admitted.now.graph c.args.order.now c.requires c.loop-process.process-index
    c.loop-process.walk.reaches.items c.loop-process.walk.known.items c.loop-process.walk.sent.items
    (omega (arith, ap length same)) c.loop-process.invariant
