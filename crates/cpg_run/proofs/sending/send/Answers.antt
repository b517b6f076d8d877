-- Proof of `send`: sets the times of all that an active process sends, if the slots of its node are free from a given
-- time on.
use Rattle.std.proofs.Common.{◌≡◌, ◌∙◌, ℕ, ◌<◌, ◌+◌, List, length, length-set, get_or, set, Contains, Some, refl, sym}
use Rattle.std.proofs.Common.{ap, subst, arith}
use Rattle.std.proofs.lemmas.List.Elements.{Contains-get_or}
use Rattle.cpg_base.specs.Graph.{item_at, node_of}
use Rattle.cpg_base.specs.Activity.{item_active}
use Rattle.cpg_base.proofs.Bounds.{round-le}
use Rattle.cpg_bus.specs.Share.{HasSlot}
use Rattle.cpg_run.specs.Run.{Times, end_in}
use Rattle.cpg_run.proofs.RunExists.{a_run}
use Rattle.cpg_bus.specs.Plan.{queue_of}
use Rattle.cpg_bus.proofs.Queued.{in_queue}
use Rattle.cpg_run.proofs.Senders.{queued_slot}
use Rattle.cpg_run.proofs.Sends.{nothing_sent, send_is, found_is, sent_idle, sent_active}
use Rattle.cpg_run.proofs.Small.{run_small}
use Rattle.cpg_run.specs.Progress.{HasSent, KeepsEnds}
use Rattle.cpg_run.proofs.sending.send.Goals.{then-is_item_active, else-is_item_active}
use Rattle.cpg_run.proofs.sending.send.Goals as goal

-- an item of `xs` is in the queue `qs`, if the two lists are the same
item_queued : (xs qs : List ℕ) (k : ℕ) → k < length xs → xs ≡ qs → Contains qs (get_or xs k 0)
item_queued xs qs k l is = subst (λ ys. Contains ys (get_or xs k 0)) is (Contains-get_or xs k 0 l)

-- before the first item nothing is sent, and no end has changed
pub loop-item-init : goal.loop-item-init
loop-item-init c = record {
  sent = λ t run. nothing_sent c.args.setting.now.problem.now c.args.setting.now.order.now
      c.requires.setting.topological c.args.scenario.now c.args.process c.requires.process t c.args.known.now
      c.args.free (c.requires.can t run);
  keeps = record { times = refl; ends = refl };
}

-- a node with an item in its queue has a slot
pub send_time-time-requires-clause-slot : goal.send_time-time-requires-clause-slot
send_time-time-requires-clause-slot c =
    let admitted = c.requires.setting.admitted in
    subst (HasSlot c.args.setting.now.problem.now) (sym c.node_of-node.ensures.node)
    (queued_slot c.args.setting.now.problem.now admitted.1.slots c.args.process
    (get_or c.queue-item-items.result.now c.loop-item.item-index 0)
    (item_queued c.queue-item-items.result.now (queue_of c.args.setting.now.problem.now c.args.process)
    c.loop-item.item-index c.loop-item-test.true c.queue-item-items.ensures))

-- an item in the queue is an item of the graph, so it has a place among the frozen times
pub send_time-time-requires-clause-frozen : goal.send_time-time-requires-clause-frozen
send_time-time-requires-clause-frozen c =
    let queued = in_queue c.args.setting.now.problem.now c.args.process
    (get_or c.queue-item-items.result.now c.loop-item.item-index 0)
    (item_queued c.queue-item-items.result.now (queue_of c.args.setting.now.problem.now c.args.process)
    c.loop-item.item-index c.loop-item-test.true c.queue-item-items.ensures) in
    omega (arith, queued.within, c.requires.frozen)

-- the end of the process is that of the scenario's run, and all ends of a run are below 2 ^ 59
pub send_time-time-requires-clause-early : goal.send_time-time-requires-clause-early
send_time-time-requires-clause-early c =
    let admitted = c.requires.setting.admitted in
    let found_run = a_run c.args.setting.now.problem.now c.args.setting.now.order.now c.args.frozen.now
    c.args.scenario.now c.requires.setting.topological in
    let small = run_small c.args.setting.now.problem.now c.args.setting.now.order.now c.args.frozen.now
    c.args.scenario.now found_run.0 admitted.1.limits c.requires.setting.topological c.requires.scenario
    c.requires.early found_run.1 in
    omega (arith, c.end-end.ensures, (c.requires.can found_run.0 found_run.1).ends, small.ends c.args.process)

-- an item in the queue is an item of the graph, so it has a place among the times
pub set_time-requires : goal.set_time-requires
set_time-requires c =
    let queued = in_queue c.args.setting.now.problem.now c.args.process
    (get_or c.queue-item-items.result.now c.loop-item.item-index 0)
    (item_queued c.queue-item-items.result.now (queue_of c.args.setting.now.problem.now c.args.process)
    c.loop-item.item-index c.loop-item-test.true c.queue-item-items.ensures) in
    omega (arith, queued.within, c.requires.times, c.loop-item.invariant.keeps.times)

-- the time is that of the run and so below 2 ^ 59, a round is short, and so the sum doesn't overflow
pub overflow_add-free : goal.overflow_add-free
overflow_add-free c =
    let admitted = c.requires.setting.admitted in
    -- the run has small times
    let found_run = a_run c.args.setting.now.problem.now c.args.setting.now.order.now c.args.frozen.now
    c.args.scenario.now c.requires.setting.topological in
    let small = run_small c.args.setting.now.problem.now c.args.setting.now.order.now c.args.frozen.now
    c.args.scenario.now found_run.0 admitted.1.limits c.requires.setting.topological c.requires.scenario
    c.requires.early found_run.1 in
    -- the item is the one at this place of the process's queue, and active
    let queue = queue_of c.args.setting.now.problem.now c.args.process in
    let here = ap (λ xs. get_or xs c.loop-item.item-index 0) c.queue-item-items.ensures in
    let inside : c.loop-item.item-index < length queue =
    omega (arith, ap length c.queue-item-items.ensures, c.loop-item-test.true) in
    let acts = ap (λ x. item_active c.args.setting.now.problem.now c.args.scenario.now.values
    (item_at c.args.setting.now.problem.now x)) (sym here) ∙ sym c.is_item_active.ensures ∙
    c.if-is_item_active.true in
    -- the time that is found is that of the run
    let at = found_is c.args.setting.now.problem.now c.args.frozen.now c.send_time-time.result c.loop-item.free
    c.node_of-node.result
    (node_of c.args.setting.now.problem.now c.args.process) c.end-end.result (end_in found_run.0 c.args.process)
    (get_or c.queue-item-items.result.now c.loop-item.item-index 0)
    (get_or queue c.loop-item.item-index 0) c.send_time-time.ensures c.node_of-node.ensures.node
    (c.end-end.ensures ∙ (c.requires.can found_run.0 found_run.1).ends) here in
    let is = send_is c.args.setting.now.problem.now c.args.setting.now.order.now c.requires.setting.topological
    c.args.scenario.now c.args.process c.requires.process c.loop-item.item-index inside
    c.args.frozen.now found_run.0 found_run.1 c.loop-item.free
    (c.loop-item.invariant.sent found_run.0 found_run.1).slots_free acts in
    -- a small time and a round fit a number of 64 bits
    omega (
      arith,
      at,
      is,
      small.times (get_or queue c.loop-item.item-index 0),
      c.round-round.ensures,
      round-le c.args.setting.now.problem.now admitted.1.limits,
    )

-- one more item is sent: an active one has its time set, and an inactive one has none in the run either
pub loop-item-preserved : goal.loop-item-preserved
loop-item-preserved c =
    let queue = queue_of c.args.setting.now.problem.now c.args.process in
    -- the item is the one at this place of the process's queue
    let here = ap (λ xs. get_or xs c.loop-item.item-index 0) c.queue-item-items.ensures in
    let inside : c.loop-item.item-index < length queue =
    omega (arith, ap length c.queue-item-items.ensures, c.loop-item-test.true) in
    elim c.if-is_item_active.branch [
      -- the item is active: its time is set
      | then-is_item_active active ↦
          let acts = ap (λ x. item_active c.args.setting.now.problem.now c.args.scenario.now.values
          (item_at c.args.setting.now.problem.now x)) (sym here) ∙ sym c.is_item_active.ensures ∙
          active.if-is_item_active.true in
          let queued = in_queue c.args.setting.now.problem.now c.args.process (get_or queue c.loop-item.item-index 0)
          (Contains-get_or queue c.loop-item.item-index 0 inside) in
          let times : c.if-is_item_active.known.times
          ≡ set c.loop-item.known.times (get_or queue c.loop-item.item-index 0) (Some active.send_time-time.result) =
          ap (λ (k : Times). k.times) (active.known-is ∙ active.set_time.ensures)
          ∙ ap (λ y. set c.loop-item.known.times y (Some active.send_time-time.result)) here in
          record {
            -- in each run the time is the one found, and the slots are free a round later
            sent = λ t run.
                let has = c.loop-item.invariant.sent t run in
                let at = found_is c.args.setting.now.problem.now c.args.frozen.now active.send_time-time.result
                c.loop-item.free c.node_of-node.result
                (node_of c.args.setting.now.problem.now c.args.process) c.end-end.result (end_in t c.args.process)
                (get_or c.queue-item-items.result.now c.loop-item.item-index 0)
                (get_or queue c.loop-item.item-index 0) active.send_time-time.ensures c.node_of-node.ensures.node
                (c.end-end.ensures ∙ (c.requires.can t run).ends) here in
                subst (HasSent c.args.setting.now.problem.now c.args.setting.now.order.now c.args.scenario.now
                t c.args.process
                (c.loop-item.item-index + 1) c.args.known.now c.if-is_item_active.known)
                (sym (active.free-is ∙ ap (λ n. active.send_time-time.result + n) c.round-round.ensures))
                (sent_active c.args.setting.now.problem.now c.args.setting.now.order.now c.requires.setting.topological
                c.args.scenario.now c.args.process c.requires.process c.args.frozen.now t run
                c.args.known.now c.loop-item.known c.loop-item.item-index c.loop-item.free inside has
                c.if-is_item_active.known active.send_time-time.result
                (omega (arith, queued.within, c.requires.times, c.loop-item.invariant.keeps.times)) times acts at);
            -- only this time is set, and no end
            keeps = record {
              times = ap length times ∙ length-set c.loop-item.known.times (get_or queue c.loop-item.item-index 0)
                  (Some active.send_time-time.result) ∙ c.loop-item.invariant.keeps.times;
              ends = ap (λ (k : Times). k.ends) (active.known-is ∙ active.set_time.ensures)
                  ∙ c.loop-item.invariant.keeps.ends;
            };
          }
      -- the item isn't active: nothing is set
      | else-is_item_active inactive ↦
          let idle = ap (λ x. item_active c.args.setting.now.problem.now c.args.scenario.now.values
          (item_at c.args.setting.now.problem.now x)) (sym here) ∙ sym c.is_item_active.ensures ∙
          inactive.if-is_item_active.false in
          record {
            -- in each run it has no time, and the slots stay free from the same time on
            sent = λ t run.
                let has = c.loop-item.invariant.sent t run in
                subst (λ k. HasSent c.args.setting.now.problem.now c.args.setting.now.order.now c.args.scenario.now
                t c.args.process
                (c.loop-item.item-index + 1) c.args.known.now k c.if-is_item_active.free) (sym inactive.known-is)
                (subst (HasSent c.args.setting.now.problem.now c.args.setting.now.order.now c.args.scenario.now t
                c.args.process (c.loop-item.item-index + 1) c.args.known.now c.loop-item.known)
                (sym inactive.free-is)
                (sent_idle c.args.setting.now.problem.now c.args.setting.now.order.now c.requires.setting.topological
                c.args.scenario.now c.args.process c.requires.process c.args.frozen.now t run
                c.args.known.now c.loop-item.known c.loop-item.item-index c.loop-item.free inside has
                (c.requires.can t run).none idle));
            keeps = subst (KeepsEnds c.args.known.now) (sym inactive.known-is) c.loop-item.invariant.keeps;
          }
    ]

-- at the end of the loop the whole queue has been sent
pub returns-clause-sent : goal.returns-clause-sent
returns-clause-sent c t run =
    let all : c.loop-item.item-index ≡ length (queue_of c.args.setting.now.problem.now c.args.process) =
    omega (arith, ap length c.queue-item-items.ensures, c.loop-item-test.false, c.loop-item.auto.item-index-end) in
    subst (λ n. HasSent c.args.setting.now.problem.now c.args.setting.now.order.now c.args.scenario.now t c.args.process
    n c.args.known.now c.loop-item.known c.loop-item.free) all
    (c.loop-item.invariant.sent t run)
