-- Proof of `step`: sets the times of the process at a place, and of what it sends.
use Rattle.std.proofs.Common.{◌≡◌, ◌∙◌, ℕ, ◌<◌, ◌+◌, max, List, length, get_or, set, Some, sym, ap, subst, arith}
use Rattle.std.proofs.lemmas.List.{get_or_default}
use Rattle.cpg_base.specs.Graph.{process_count, node_of}
use Rattle.cpg_base.specs.Duration.{duration}
use Rattle.cpg_base.proofs.Places.{length_order}
use Rattle.cpg_run.specs.Run.{Times, IsRun}
use Rattle.cpg_run.proofs.RunExists.{a_run}
use Rattle.cpg_run.specs.Progress.{IsAt}
use Rattle.cpg_run.proofs.Places.{at_idle, start_right, can_send, at_active}
use Rattle.cpg_run.proofs.Small.{run_small}
use Rattle.cpg_run.proofs.Starts.{known_small}
use Rattle.cpg_run.proofs.stepping.step.Goals as goal

-- what is read at the place `at` of a list, whatever the default, is the element at `node`, if both are the same place
node_read : (xs : List ℕ) (v at node : ℕ) → v ≡ get_or xs at v → at < length xs → at ≡ node → v ≡ get_or xs node 0
node_read xs v at node is l e = is ∙ get_or_default xs at v 0 l ∙ ap (λ n. get_or xs n 0) e

-- an order has as many places as the graph has processes
pub at-process-requires : goal.at-process-requires
at-process-requires c = omega (
  arith,
  c.requires.place,
  length_order (process_count c.args.setting.now.problem.now) c.args.setting.now.order.now
      c.requires.setting.topological.all,
)

-- an element of the order is a process of the graph
pub node_of-node-requires : goal.node_of-node-requires
node_of-node-requires c = omega (
  arith,
  c.at-process.ensures.within,
  length_order (process_count c.args.setting.now.problem.now) c.args.setting.now.order.now
      c.requires.setting.topological.all,
)

-- an element of the order is a process of the graph
pub decided_there-requires-clause-process : goal.decided_there-requires-clause-process
decided_there-requires-clause-process c =
    omega (
      arith,
      c.at-process.ensures.within,
      length_order (process_count c.args.setting.now.problem.now) c.args.setting.now.order.now
          c.requires.setting.topological.all,
    )

-- what is known is that of a run with small times, so it is small
pub decided_there-requires-clause-small : goal.decided_there-requires-clause-small
decided_there-requires-clause-small c =
    let admitted = c.requires.setting.admitted in
    let found_run = a_run c.args.setting.now.problem.now c.args.setting.now.order.now c.args.frozen.now
    c.args.scenario.now c.requires.setting.topological in
    known_small c.args.setting.now.problem.now c.args.setting.now.order.now found_run.0 c.args.place c.args.known.now
    (c.requires.at found_run.0 found_run.1).knows c.requires.places.times c.requires.places.ends
    (run_small c.args.setting.now.problem.now c.args.setting.now.order.now c.args.frozen.now c.args.scenario.now
    found_run.0 admitted.1.limits c.requires.setting.topological c.requires.scenario c.requires.early found_run.1)

-- an element of the order is a process of the graph
pub is_active-requires-clause-process : goal.is_active-requires-clause-process
is_active-requires-clause-process c = omega (
  arith,
  c.at-process.ensures.within,
  length_order (process_count c.args.setting.now.problem.now) c.args.setting.now.order.now
      c.requires.setting.topological.all,
)

-- after an inactive process the same times are known, and its node is ready when it has heard what decides the process too;
-- with that all is found before the next place
pub returns-then-not-is_active-clause-at : goal.returns-then-not-is_active-clause-at
returns-then-not-is_active-clause-at c t run =
    let below : c.at-process.result < process_count c.args.setting.now.problem.now =
    omega (
      arith,
      c.at-process.ensures.within,
      length_order (process_count c.args.setting.now.problem.now) c.args.setting.now.order.now
          c.requires.setting.topological.all,
    ) in
    -- the process and its node are of the graph
    let node_below :
    node_of c.args.setting.now.problem.now c.at-process.result < length c.args.setting.now.problem.now.nodes =
    omega (arith, c.node_of-node.ensures.node, c.node_of-node.ensures.within) in
    -- the node is ready when it has heard what decides the process
    let is_ready = node_read c.args.nodes.now.ready.items c.index.result.now c.node_of-node.result
    (node_of c.args.setting.now.problem.now c.at-process.result) c.index.ensures
    (omega (arith, c.node_of-node.ensures.within, c.requires.places.ready_count)) c.node_of-node.ensures.node in
    let ready_at = c.max-ready.ensures ∙ ap (λ n. max n c.in_ok-heard.heard) is_ready in
    -- an inactive process changes no times, and the node's readiness alone
    subst (λ n. IsAt c.args.setting.now.problem.now c.args.setting.now.order.now c.args.scenario.now t
    (c.args.place + 1) c.args.known.now
    (set c.args.nodes.now.ready.items n c.max-ready.result) c.args.nodes.now.free.items)
    (sym c.node_of-node.ensures.node)
    (at_idle c.args.setting.now.problem.now c.args.setting.now.order.now c.requires.setting.topological
    c.args.frozen.now c.args.scenario.now t run c.args.place c.at-process.result below
    c.at-process.ensures.back node_below
    c.args.known.now c.args.nodes.now.ready.items c.args.nodes.now.free.items (c.requires.at t run)
    c.requires.places.ready_count c.requires.places.free_count c.in_ok-heard.heard c.in_ok-heard.ensures
    c.max-ready.result (sym c.is_active.ensures ∙ c.if-not-is_active.true) ready_at)

-- a process has a place among the frozen times of all items
pub start-start-requires-clause-frozen : goal.start-start-requires-clause-frozen
start-start-requires-clause-frozen c = omega (
  arith,
  c.requires.frozen,
  c.at-process.ensures.within,
  length_order (process_count c.args.setting.now.problem.now) c.args.setting.now.order.now
      c.requires.setting.topological.all,
)

-- an element of the order is a process of the graph
pub start-start-requires-clause-process : goal.start-start-requires-clause-process
start-start-requires-clause-process c = omega (
  arith,
  c.at-process.ensures.within,
  length_order (process_count c.args.setting.now.problem.now) c.args.setting.now.order.now
      c.requires.setting.topological.all,
)

-- what is known is that of a run with small times, so it is small
pub start-start-requires-clause-small : goal.start-start-requires-clause-small
start-start-requires-clause-small c =
    let admitted = c.requires.setting.admitted in
    let found_run = a_run c.args.setting.now.problem.now c.args.setting.now.order.now c.args.frozen.now
    c.args.scenario.now c.requires.setting.topological in
    known_small c.args.setting.now.problem.now c.args.setting.now.order.now found_run.0 c.args.place c.args.known.now
    (c.requires.at found_run.0 found_run.1).knows c.requires.places.times c.requires.places.ends
    (run_small c.args.setting.now.problem.now c.args.setting.now.order.now c.args.frozen.now c.args.scenario.now
    found_run.0 admitted.1.limits c.requires.setting.topological c.requires.scenario c.requires.early found_run.1)

-- the scenario has a fault count for each process
pub fault-requires : goal.fault-requires
fault-requires c = omega (
  arith,
  c.requires.scenario.faults,
  c.at-process.ensures.within,
  length_order
      (process_count c.args.setting.now.problem.now) c.args.setting.now.order.now c.requires.setting.topological.all,
)

-- an element of the order is a process of the graph
pub duration-requires-clause-process : goal.duration-requires-clause-process
duration-requires-clause-process c = omega (
  arith,
  c.at-process.ensures.within,
  length_order (process_count c.args.setting.now.problem.now) c.args.setting.now.order.now
      c.requires.setting.topological.all,
)

-- the start is that of the run and so below 2 ^ 59, a duration is short, and so the sum doesn't overflow
pub overflow_add-end : goal.overflow_add-end
overflow_add-end c =
    let admitted = c.requires.setting.admitted in
    -- the run, whose times are small
    let found_run = a_run c.args.setting.now.problem.now c.args.setting.now.order.now c.args.frozen.now
    c.args.scenario.now c.requires.setting.topological in
    let t = found_run.0 in
    let run : IsRun c.args.setting.now.problem.now c.args.setting.now.order.now c.args.frozen.now
    c.args.scenario.now t = found_run.1 in
    let small = run_small c.args.setting.now.problem.now c.args.setting.now.order.now c.args.frozen.now
    c.args.scenario.now t admitted.1.limits c.requires.setting.topological c.requires.scenario
    c.requires.early run in
    -- the process and its node are of the graph
    let below : c.at-process.result < process_count c.args.setting.now.problem.now =
    omega (
      arith,
      c.at-process.ensures.within,
      length_order (process_count c.args.setting.now.problem.now) c.args.setting.now.order.now
          c.requires.setting.topological.all,
    ) in
    let node_below :
    node_of c.args.setting.now.problem.now c.at-process.result < length c.args.setting.now.problem.now.nodes =
    omega (arith, c.node_of-node.ensures.node, c.node_of-node.ensures.within) in
    -- the node is ready when it has heard what decides the process
    let is_ready = node_read c.args.nodes.now.ready.items c.index.result.now c.node_of-node.result
    (node_of c.args.setting.now.problem.now c.at-process.result) c.index.ensures
    (omega (arith, c.node_of-node.ensures.within, c.requires.places.ready_count)) c.node_of-node.ensures.node in
    let ready_at = c.max-ready.ensures ∙ ap (λ n. max n c.in_ok-heard.heard) is_ready in
    let acts = sym c.is_active.ensures ∙ c.if-not-is_active.false in
    -- the start is that of the run, so an end fits a number of 64 bits
    omega (
      arith,
      c.duration.ensures.short,
      small.times c.at-process.result,
      start_right c.args.setting.now.problem.now c.args.setting.now.order.now c.requires.setting.topological
          c.args.frozen.now c.args.scenario.now t run c.args.place c.at-process.result below
          c.at-process.ensures.back node_below
          c.args.known.now c.args.nodes.now.ready.items c.args.nodes.now.free.items
          (c.requires.at t run) c.requires.places.ready_count c.requires.places.free_count c.in_ok-heard.heard
          c.in_ok-heard.ensures
          acts c.max-ready.result c.start-start.result ready_at c.start-start.ensures,
    )

-- there is a place for the time of each item
pub set_time-requires : goal.set_time-requires
set_time-requires c = omega (
  arith,
  c.requires.places.times,
  c.at-process.ensures.within,
  length_order
      (process_count c.args.setting.now.problem.now) c.args.setting.now.order.now c.requires.setting.topological.all,
)

-- there is a place for the end of each process
pub set_end-requires : goal.set_end-requires
set_end-requires c = omega (
  arith,
  ap (λ (k : Times). length k.ends) c.set_time.ensures,
  c.requires.places.ends,
  c.at-process.ensures.within,
  length_order (process_count c.args.setting.now.problem.now) c.args.setting.now.order.now
      c.requires.setting.topological.all,
)

-- an element of the order is a process of the graph
pub send-requires-clause-process : goal.send-requires-clause-process
send-requires-clause-process c = omega (
  arith,
  c.at-process.ensures.within,
  length_order (process_count c.args.setting.now.problem.now) c.args.setting.now.order.now
      c.requires.setting.topological.all,
)

-- with the start and the end set, all is known that has to be before the process sends
pub send-requires-clause-can : goal.send-requires-clause-can
send-requires-clause-can c t run =
    -- the process and its node are of the graph
    let below : c.at-process.result < process_count c.args.setting.now.problem.now =
    omega (
      arith,
      c.at-process.ensures.within,
      length_order (process_count c.args.setting.now.problem.now) c.args.setting.now.order.now
          c.requires.setting.topological.all,
    ) in
    let node_below :
    node_of c.args.setting.now.problem.now c.at-process.result < length c.args.setting.now.problem.now.nodes =
    omega (arith, c.node_of-node.ensures.node, c.node_of-node.ensures.within) in
    -- the node is ready when it has heard what decides the process
    let is_ready = node_read c.args.nodes.now.ready.items c.index.result.now c.node_of-node.result
    (node_of c.args.setting.now.problem.now c.at-process.result) c.index.ensures
    (omega (arith, c.node_of-node.ensures.within, c.requires.places.ready_count)) c.node_of-node.ensures.node in
    let ready_at = c.max-ready.ensures ∙ ap (λ n. max n c.in_ok-heard.heard) is_ready in
    let acts = sym c.is_active.ensures ∙ c.if-not-is_active.false in
    -- the end is a duration after the start; both are set
    let ends = ap (λ d. c.start-start.result + d) (c.duration.ensures.duration
    ∙ ap (duration c.args.setting.now.problem.now c.at-process.result) c.fault.ensures) in
    let started = ap (λ (k : Times). k.times) c.set_end.ensures ∙ ap (λ (k : Times). k.times) c.set_time.ensures in
    let ended = ap (λ (k : Times). k.ends) c.set_end.ensures
    ∙ ap (λ (k : Times). set k.ends c.at-process.result (Some (c.start-start.result + c.duration.result)))
    c.set_time.ensures in
    -- the time from which the node's slots are free is that of the node
    let is_free = node_read c.args.nodes.now.free.items c.index-2.result.now c.node_of-node.result
    (node_of c.args.setting.now.problem.now c.at-process.result) c.index-2.ensures
    (omega (arith, c.node_of-node.ensures.within, c.requires.places.free_count)) c.node_of-node.ensures.node in
    -- so the process can send
    can_send c.args.setting.now.problem.now c.args.setting.now.order.now c.requires.setting.topological
    c.args.frozen.now c.args.scenario.now t run c.args.place c.at-process.result below
    c.at-process.ensures.back node_below
    c.args.known.now c.args.nodes.now.ready.items c.args.nodes.now.free.items (c.requires.at t run)
    c.requires.places.ready_count c.requires.places.free_count c.in_ok-heard.heard c.in_ok-heard.ensures
    acts c.max-ready.result c.start-start.result ready_at c.start-start.ensures
    (c.start-start.result + c.duration.result) ends
    c.set_end.new.self c.requires.places.times c.requires.places.ends started ended c.index-2.result.now is_free

-- with the start, the end and the times of all that the process sends, all is found before the next place
pub returns-clause-at : goal.returns-clause-at
returns-clause-at c t run =
    -- the process and its node are of the graph
    let below : c.at-process.result < process_count c.args.setting.now.problem.now =
    omega (
      arith,
      c.at-process.ensures.within,
      length_order (process_count c.args.setting.now.problem.now) c.args.setting.now.order.now
          c.requires.setting.topological.all,
    ) in
    let node_below :
    node_of c.args.setting.now.problem.now c.at-process.result < length c.args.setting.now.problem.now.nodes =
    omega (arith, c.node_of-node.ensures.node, c.node_of-node.ensures.within) in
    -- the node is ready when it has heard what decides the process
    let is_ready = node_read c.args.nodes.now.ready.items c.index.result.now c.node_of-node.result
    (node_of c.args.setting.now.problem.now c.at-process.result) c.index.ensures
    (omega (arith, c.node_of-node.ensures.within, c.requires.places.ready_count)) c.node_of-node.ensures.node in
    let ready_at = c.max-ready.ensures ∙ ap (λ n. max n c.in_ok-heard.heard) is_ready in
    let acts = sym c.is_active.ensures ∙ c.if-not-is_active.false in
    -- the end is a duration after the start; both are set
    let ends = ap (λ d. c.start-start.result + d) (c.duration.ensures.duration
    ∙ ap (duration c.args.setting.now.problem.now c.at-process.result) c.fault.ensures) in
    let started = ap (λ (k : Times). k.times) c.set_end.ensures ∙ ap (λ (k : Times). k.times) c.set_time.ensures in
    let ended = ap (λ (k : Times). k.ends) c.set_end.ensures
    ∙ ap (λ (k : Times). set k.ends c.at-process.result (Some (c.start-start.result + c.duration.result)))
    c.set_time.ensures in
    -- an active process changes its own times and those of what it sends, and the readiness of its node and slots
    subst (λ n. IsAt c.args.setting.now.problem.now c.args.setting.now.order.now c.args.scenario.now t
    (c.args.place + 1) c.send.new.known
    (set c.args.nodes.now.ready.items n (c.start-start.result + c.duration.result))
    (set c.args.nodes.now.free.items n c.send.result)) (sym c.node_of-node.ensures.node)
    (at_active c.args.setting.now.problem.now c.args.setting.now.order.now c.requires.setting.topological
    c.args.frozen.now c.args.scenario.now t run c.args.place c.at-process.result below
    c.at-process.ensures.back node_below
    c.args.known.now c.args.nodes.now.ready.items c.args.nodes.now.free.items (c.requires.at t run)
    c.requires.places.ready_count c.requires.places.free_count c.in_ok-heard.heard c.in_ok-heard.ensures
    acts c.max-ready.result c.start-start.result ready_at c.start-start.ensures
    (c.start-start.result + c.duration.result) ends
    c.set_end.new.self c.requires.places.times c.requires.places.ends started ended c.send.new.known c.send.result
    (c.send.ensures.sent t run) c.send.ensures.keeps)
