-- Proof of `tails`: returns the tail of each process, by number.
use Rattle.std.proofs.Common.{◌+◌, ◌<◌, ◌≡◌, ◌∙◌, sym, ap, ap₂, subst, get_or, length, Contains, set, arith, replicate}
use Rattle.std.proofs.Common.{rules}
use Rattle.std.proofs.lemmas.List.{get_or-replicate, length-replicate}
use Rattle.cpg_base.specs.Graph.{process_count}
use Rattle.cpg_base.proofs.Bounds.{round-le, duration-le}
use Rattle.cpg_base.proofs.Inputs.{outputs_parts}
use Rattle.cpg_base.specs.Order.{place}
use Rattle.cpg_base.proofs.Places.{length_order}
use Rattle.cpg_order.proofs.LongestWays.{AreFound, longest_from-le, way_is, none_found, found_more, all_found}
use Rattle.cpg_order.proofs.tails.tails.Goals as goal

-- at the start no tail is found
pub loop-done-init : goal.loop-done-init
loop-done-init c =
    let count = ap length c.processes-count.ensures.processes in
    let zeros : c.in_ok-tails.tails.items ≡ replicate (length c.processes-count.result.now) 0 = search rules in
    none_found c.args.problem.now c.processes-count.ensures.within c.args.order.now c.requires.order
    c.in_ok-tails.tails.items
    (ap length zeros ∙ length-replicate (length c.processes-count.result.now) 0 ∙ count)
    (λ p inside. ap (λ xs. get_or xs p 0) zeros
    ∙ get_or-replicate (length c.processes-count.result.now) p 0 0 (omega arith))

-- the order is as long as there are processes, so it has a process at the place that is asked for
pub at-process-requires : goal.at-process-requires
at-process-requires c = omega (
  arith,
  ap length c.processes-count.ensures.processes,
  length_order (process_count c.args.problem.now) c.args.order.now c.requires.order.all,
)

-- a process of the order is one of the graph, so the links have its outputs
pub outputs-requires : goal.outputs-requires
outputs-requires c =
    let long = length_order (process_count c.args.problem.now) c.args.order.now c.requires.order.all in
    subst (λ k. c.at-process.result < k.count) (sym c.requires.links) (omega arith)

-- an output of a process is an edge of the graph
pub longest-way-requires-clause-outputs : goal.longest-way-requires-clause-outputs
longest-way-requires-clause-outputs c e is_output =
    (outputs_parts c.args.problem.now c.at-process.result e
    (subst (λ xs. Contains xs e) (c.outputs.ensures.of_graph c.args.problem.now c.requires.links) is_output)).0

-- a round is at most 16 slots of at most 10^9
pub longest-way-requires-clause-round : goal.longest-way-requires-clause-round
longest-way-requires-clause-round c =
    omega (arith, c.round-round.ensures, round-le c.args.problem.now c.processes-count.ensures.within)

-- no tail found so far is longer than 2^60: it sums up at most 128 executions and rounds, each below 2^41
pub longest-way-requires-clause-low : goal.longest-way-requires-clause-low
longest-way-requires-clause-low c p =
    let low = c.loop-done.invariant.low p in
    rw c.as_slice.ensures.value
    (omega (arith, ap length c.processes-count.ensures.processes, c.processes-count.ensures.within.few_processes))

-- an order names processes of the graph alone
pub duration-requires-clause-process : goal.duration-requires-clause-process
duration-requires-clause-process c =
    omega (arith, length_order (process_count c.args.problem.now) c.args.order.now c.requires.order.all)

-- a duration and a longest way fit a number of 64 bits
pub overflow_add-duration : goal.overflow_add-duration
overflow_add-duration c =
    let inside : c.at-process.result < process_count c.args.problem.now =
    omega (arith, length_order (process_count c.args.problem.now) c.args.order.now c.requires.order.all) in
    let at : place c.args.order.now c.at-process.result + c.loop-done.done + 1 ≡ process_count c.args.problem.now =
    omega (arith, c.at-process.ensures.back, ap length c.processes-count.ensures.processes) in
    let way = c.longest-way.ensures ∙ way_is c.args.problem.now c.round-round.result c.at-process.result
    c.outputs.result.now c.as_slice.result.now c.loop-done.tails.items
    c.round-round.ensures c.as_slice.ensures.value (c.outputs.ensures.of_graph c.args.problem.now c.requires.links) in
    omega (
      arith,
      c.duration.ensures.duration,
      duration-le c.args.problem.now c.at-process.result 0 c.processes-count.ensures.within inside (omega arith),
      c.processes-count.ensures.within.few_processes,
      longest_from-le c.args.problem.now c.processes-count.ensures.within c.args.order.now c.requires.order
          c.loop-done.tails.items c.loop-done.done c.at-process.result c.loop-done.invariant inside
          at,
    )

-- there is a tail for each process of the order
pub index_mut-requires : goal.index_mut-requires
index_mut-requires c = omega (
  arith,
  c.loop-done.invariant.long,
  length_order (process_count c.args.problem.now) c.args.order.now c.requires.order.all,
)

-- the tail of the next process, found by those of the processes after it
pub loop-done-preserved : goal.loop-done-preserved
loop-done-preserved c =
    let inside : c.at-process.result < process_count c.args.problem.now =
    omega (arith, length_order (process_count c.args.problem.now) c.args.order.now c.requires.order.all) in
    let at : place c.args.order.now c.at-process.result + c.loop-done.done + 1 ≡ process_count c.args.problem.now =
    omega (arith, c.at-process.ensures.back, ap length c.processes-count.ensures.processes) in
    let way = c.longest-way.ensures ∙ way_is c.args.problem.now c.round-round.result c.at-process.result
    c.outputs.result.now c.as_slice.result.now c.loop-done.tails.items
    c.round-round.ensures c.as_slice.ensures.value (c.outputs.ensures.of_graph c.args.problem.now c.requires.links) in
    subst (λ x. AreFound c.args.problem.now c.args.order.now (set c.loop-done.tails.items c.at-process.result x)
    (c.loop-done.done + 1)) (sym (ap₂ ◌+◌ c.duration.ensures.duration way))
    (found_more c.args.problem.now c.processes-count.ensures.within c.args.order.now c.requires.order
    c.loop-done.tails.items c.loop-done.done c.at-process.result c.loop-done.invariant inside at)

-- the tails of all processes are found
pub returns : goal.returns
returns c =
    let count = ap length c.processes-count.ensures.processes in
    all_found c.args.problem.now c.processes-count.ensures.within c.args.order.now c.requires.order
    c.loop-done.tails.items
    (let all_done : c.loop-done.done ≡ process_count c.args.problem.now = omega arith in
    subst (AreFound c.args.problem.now c.args.order.now c.loop-done.tails.items) all_done c.loop-done.invariant)
