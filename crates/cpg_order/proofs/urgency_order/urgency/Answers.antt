-- Proof of `urgency`: returns the urgency order: by falling tails, and for equal ones by number.
use Rattle.std.proofs.Common.{◌∙◌, sym, ap, subst, length, arith}
use Rattle.std.proofs.lemmas.List.FromFn.{length-map-range_with_len}
use Rattle.cpg_base.specs.Graph.{process_count}
use Rattle.cpg_order.specs.Urgency.{tail, IsTopological, IsUrgencyOrder}
use Rattle.cpg_order.specs.Ranking.{AreRanked}
use Rattle.cpg_order.proofs.UrgencyIsTopological.{work_within, urgency_goes_forward}
use Rattle.cpg_order.proofs.Cycles.{no_cycle}
use Rattle.cpg_order.proofs.RankOrders.{urgency_from_ranks}
use Rattle.cpg_base.proofs.Standing.{order_of_all}
use Rattle.cpg_order.proofs.urgency_order.urgency.Goals as goal

-- there are no more tails than processes, at most 128
pub ranked-requires : goal.ranked-requires
ranked-requires c =
    let long = ap length c.in_ok-tails.ensures
    ∙ length-map-range_with_len (tail c.args.problem.now) 0 (process_count c.args.problem.now) in
    omega (arith, ap length c.as_slice.ensures.value, c.in_ok-order.ensures.within.few_processes)

-- the ranked processes are all processes, each once
pub new-requires : goal.new-requires
new-requires c = order_of_all c.args.problem.now c.in_ok-order.ensures.within c.in_ok-processes.processes.items
    (urgency_from_ranks c.args.problem.now c.in_ok-tails.tails.items c.in_ok-processes.processes.items
    c.in_ok-tails.ensures
    (subst (λ xs. AreRanked xs c.in_ok-processes.processes.items) c.as_slice.ensures.value
    c.in_ok-processes.ensures)).all

-- the processes ranked by their tails are in urgency order
pub returns-clause-urgent : goal.returns-clause-urgent
returns-clause-urgent c = subst (IsUrgencyOrder c.args.problem.now) (sym c.in_ok-new.ensures)
    (urgency_from_ranks c.args.problem.now c.in_ok-tails.tails.items c.in_ok-processes.processes.items
    c.in_ok-tails.ensures
    (subst (λ xs. AreRanked xs c.in_ok-processes.processes.items) c.as_slice.ensures.value c.in_ok-processes.ensures))

-- the ranked processes are the urgency order, which is topological as the graph has a topological order
pub returns-clause-topological : goal.returns-clause-topological
returns-clause-topological c = subst (IsTopological c.args.problem.now) (sym c.in_ok-new.ensures)
    (urgency_goes_forward c.args.problem.now (work_within c.args.problem.now c.in_ok-order.ensures.within)
    c.in_ok-order.order c.in_ok-order.ensures.order c.in_ok-processes.processes.items
    (urgency_from_ranks c.args.problem.now c.in_ok-tails.tails.items c.in_ok-processes.processes.items
    c.in_ok-tails.ensures
    (subst (λ xs. AreRanked xs c.in_ok-processes.processes.items) c.as_slice.ensures.value c.in_ok-processes.ensures)))

-- a graph with a topological order has no cycle
pub returns-clause-acyclic : goal.returns-clause-acyclic
returns-clause-acyclic c = no_cycle c.args.problem.now c.in_ok-order.order c.in_ok-order.ensures.order
