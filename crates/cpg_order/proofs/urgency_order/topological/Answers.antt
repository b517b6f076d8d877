-- Proof of `topological`: returns some topological order of the graph.
use Rattle.std.proofs.Common.{sym, ap, subst, length, arith}
use Rattle.cpg_order.specs.Urgency.{IsTopological}
use Rattle.cpg_order.proofs.Readiness.{settled_stuck, settled_all, settled_topological}
use Rattle.cpg_base.proofs.Standing.{order_of_all}
use Rattle.cpg_order.proofs.urgency_order.topological.Goals as goal

-- some processes couldn't be settled, so each of them waits for another
pub cycle-requires-clause-stuck : goal.cycle-requires-clause-stuck
cycle-requires-clause-stuck c = rw c.as_slice.ensures.value
    (settled_stuck c.args.problem.now c.in_ok-settled.settled.waiting.items c.in_ok-settled.settled.ready.items
    c.in_ok-settled.ensures
    (λ e inside. (c.processes-count.ensures.within.edges e _ inside).from)
    (omega (arith, ap length c.processes-count.ensures.processes)))

-- all processes are settled, each once, so the list has an order of all of them
pub new-requires : goal.new-requires
new-requires c = order_of_all c.args.problem.now c.processes-count.ensures.within c.in_ok-settled.settled.ready.items
    (settled_all c.args.problem.now c.in_ok-settled.settled.waiting.items c.in_ok-settled.settled.ready.items
    c.in_ok-settled.ensures (omega (arith, ap length c.processes-count.ensures.processes)))

-- all processes are settled, so they stand in a topological order
pub returns-clause-order : goal.returns-clause-order
returns-clause-order c = subst (IsTopological c.args.problem.now) (sym c.in_ok-new.ensures)
    (settled_topological c.args.problem.now c.in_ok-settled.settled.waiting.items c.in_ok-settled.settled.ready.items
    c.in_ok-settled.ensures
    (λ e inside. (c.processes-count.ensures.within.edges e _ inside).to)
    (omega (arith, ap length c.processes-count.ensures.processes)))
