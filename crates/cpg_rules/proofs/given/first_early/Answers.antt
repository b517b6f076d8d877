-- Proof of `first_early`: returns the first process in an order that stands before the source of one of its inputs,
-- and `None` exactly if none does.
use Rattle.std.proofs.Common.{◌<◌, ◌≤◌, length, arith, sym, ap, ◌∙◌}
use Rattle.cpg_rules.proofs.GivenOrders.{at_place, early_first, early_nowhere}
use Rattle.cpg_rules.proofs.given.first_early.Goals as goal

-- the order has as many processes as the graph and only numbers below that, so each is a process of the graph
pub is_early-requires-clause-process : goal.is_early-requires-clause-process
is_early-requires-clause-process c =
    let inside : c.loop-process.process-index < length c.args.order.now =
    omega (arith, c.loop-process-test.true, ap length c.processes-process-items.ensures.processes) in
    rw c.processes-process-items.ensures.processes (at_place c.args.problem.now c.args.order.now
    c.processes-process-items.ensures.order c.requires c.loop-process.process-index inside)

-- no process before this one is early, so it is the first
pub returns-then-is_early-clause-some : goal.returns-then-is_early-clause-some
returns-then-is_early-clause-some c =
    let inside : c.loop-process.process-index < length c.args.order.now =
    omega (arith, c.loop-process-test.true, ap length c.processes-process-items.ensures.processes) in
    let early = rw c.processes-process-items.ensures.processes at (sym c.is_early.ensures ∙ c.if-is_early.true) in
    rw c.processes-process-items.ensures.processes
    (early_first c.args.problem.now c.args.order.now c.processes-process-items.ensures.order c.requires
    c.loop-process.process-index inside c.loop-process.invariant early)

-- all places have been visited, so no process is early
pub returns-clause-none : goal.returns-clause-none
returns-clause-none c =
    let past : length c.args.order.now ≤ c.loop-process.process-index =
    omega (arith, c.loop-process-test.false, ap length c.processes-process-items.ensures.processes) in
    early_nowhere c.args.problem.now c.args.order.now c.processes-process-items.ensures.order c.requires
    c.loop-process.process-index past c.loop-process.invariant
