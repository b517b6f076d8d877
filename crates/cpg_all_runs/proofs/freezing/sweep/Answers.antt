-- Proof of `sweep`: the times of the frozen items under an order, given these items along the order and scenarios that
-- show all runs.
use Rattle.std.proofs.Common.{◌≡◌, ◌∙◌, ◌<◌, Contains, get_or, refl, sym, ap, subst, arith}
use Rattle.std.proofs.lemmas.List.Elements.{All-weaker, All-contains_itself}
use Rattle.cpg_base.specs.Scenario.{IsScenario}
use Rattle.cpg_base.specs.Graph.{process_count}
use Rattle.cpg_base.specs.Order.{place}
use Rattle.cpg_base.proofs.Places.{length_order}
use Rattle.cpg_all_runs.specs.Sweep.{place_of_item}
use Rattle.cpg_run.proofs.FrozenOrder.{later_moment}
use Rattle.cpg_run.proofs.Settled.{item_frozen, next_within, next_unset, settled_early, settled_first, settled_more}
use Rattle.cpg_run.proofs.Settled.{settled_all}
use Rattle.cpg_all_runs.proofs.Swept.{along_kept, later_place}
use Rattle.cpg_all_runs.proofs.freezing.sweep.Goals as goal

-- before the first item no time is settled, nothing is found of any run, and no place comes before the first
pub loop-item-init : goal.loop-item-init
loop-item-init c = record {
  settled = settled_first c.args.setting.now.problem.now c.args.setting.now.order.now c.requires.setting.topological
      c.args.items.now c.in_ok-frozen.frozen c.args.setting.now.problem.now
      c.requires.items c.in_ok-frozen.ensures refl;
  along = c.in_ok-found.ensures c.args.setting.now.order.now c.in_ok-frozen.frozen;
  ahead = λ j l k. omega arith;
}

-- each frozen item is an item of the graph
pub producer-requires : goal.producer-requires
producer-requires c =
    next_within c.args.setting.now.problem.now c.args.setting.now.order.now c.requires.setting.topological
    c.args.items.now c.loop-item.item-index c.loop-item.frozen c.loop-item.invariant.settled
    c.loop-item-test.true

-- the producer of the item is a process of the order
pub place-next-requires : goal.place-next-requires
place-next-requires c = omega (
  arith,
  c.producer.ensures.within,
  length_order (process_count c.args.setting.now.problem.now) c.args.setting.now.order.now
      c.requires.setting.topological.all,
)

-- the settled times are those of frozen items, which are below 2 ^ 58
pub advance-requires-clause-early : goal.advance-requires-clause-early
advance-requires-clause-early c =
    settled_early c.args.setting.now.problem.now c.args.setting.now.order.now c.requires.setting.topological
    c.args.items.now c.loop-item.item-index c.loop-item.frozen c.loop-item.invariant.settled
    c.requires.setting.admitted.1.limits

-- the items are listed along the order, so the place of this one isn't before the place that was reached
pub advance-requires-clause-ahead : goal.advance-requires-clause-ahead
advance-requires-clause-ahead c =
    let g = c.args.setting.now.problem.now in
    let order = c.args.setting.now.order.now in
    let x = get_or c.args.items.now c.loop-item.item-index 0 in
    let place_is : c.place-next.result ≡ place_of_item g order x =
    c.place-next.ensures.place ∙ ap (place order) (c.producer.ensures.producer) in
    omega (arith, place_is, c.loop-item.invariant.ahead c.loop-item.item-index (omega arith) c.loop-item-test.true)

-- the place is one of the order
pub advance-requires-clause-place : goal.advance-requires-clause-place
advance-requires-clause-place c = omega (
  arith,
  c.place-next.ensures.within,
  length_order (process_count c.args.setting.now.problem.now) c.args.setting.now.order.now
      c.requires.setting.topological.all,
)

-- the settled times are those of frozen items, which are below 2 ^ 58
pub settle-requires-clause-early : goal.settle-requires-clause-early
settle-requires-clause-early c =
    settled_early c.args.setting.now.problem.now c.args.setting.now.order.now c.requires.setting.topological
    c.args.items.now c.loop-item.item-index c.loop-item.frozen c.loop-item.invariant.settled
    c.requires.setting.admitted.1.limits

-- the place is one of the order
pub settle-requires-clause-place : goal.settle-requires-clause-place
settle-requires-clause-place c = omega (
  arith,
  c.place-next.ensures.within,
  length_order (process_count c.args.setting.now.problem.now) c.args.setting.now.order.now
      c.requires.setting.topological.all,
)

-- each frozen item is an item of the graph
pub settle-requires-clause-item : goal.settle-requires-clause-item
settle-requires-clause-item c =
    next_within c.args.setting.now.problem.now c.args.setting.now.order.now c.requires.setting.topological
    c.args.items.now c.loop-item.item-index c.loop-item.frozen c.loop-item.invariant.settled
    c.loop-item-test.true

-- the place is that of the item's producer
pub settle-requires-clause-there : goal.settle-requires-clause-there
settle-requires-clause-there c =
    let x = get_or c.args.items.now c.loop-item.item-index 0 in
    sym (c.place-next.ensures.place ∙ ap (place c.args.setting.now.order.now) (c.producer.ensures.producer))

-- only the items so far have times, so this one has none yet
pub settle-requires-clause-unset : goal.settle-requires-clause-unset
settle-requires-clause-unset c =
    next_unset c.args.setting.now.problem.now c.args.setting.now.order.now c.requires.setting.topological
    c.args.items.now c.loop-item.item-index c.loop-item.frozen c.loop-item.invariant.settled
    c.loop-item-test.true

-- the item's time is settled, what was found before its place stays right, and the items that are left come no earlier
pub loop-item-preserved : goal.loop-item-preserved
loop-item-preserved c =
    let g = c.args.setting.now.problem.now in
    let order = c.args.setting.now.order.now in
    let items = c.args.items.now in
    let item_index = c.loop-item.item-index in
    let x = get_or items item_index 0 in
    -- the item's process is at the place that has been reached
    let place_is : place_of_item g order x ≡ c.place-next.result =
    sym (c.place-next.ensures.place ∙ ap (place order) (c.producer.ensures.producer)) in
    let settled = c.loop-item.invariant.settled in
    -- what is settled, what was found before the place, and which items come no earlier
    record {
      settled = settled_more g order c.requires.setting.topological items item_index c.loop-item.frozen settled
          c.requires.setting.admitted.1.limits c.loop-item-test.true
          c.settle.new.frozen c.in_ok-settle.ensures.item c.in_ok-settle.ensures.others c.in_ok-settle.ensures.count;
      along = along_kept g order c.loop-item.frozen c.place-next.result c.args.scenarios.now
          c.requires.setting.topological c.settle.new.frozen x c.advance.new.found.items place_is
          c.in_ok-settle.ensures.others c.in_ok-advance.ensures;
      ahead = λ j l k.
          let within = (item_frozen g order c.requires.setting.topological items item_index c.loop-item.frozen settled j
          k).0 in
          omega (
            arith,
            place_is,
            later_place g order x (get_or items j 0) within
                (later_moment g order c.requires.setting.topological items settled.all item_index j (omega arith) k),
          );
    }

-- once all items are settled, the times are the frozen times of the graph
pub returns-clause-frozen : goal.returns-clause-frozen
returns-clause-frozen c =
    settled_all c.args.setting.now.problem.now c.args.setting.now.order.now c.requires.setting.topological
    c.args.items.now c.loop-item.item-index c.loop-item.frozen c.loop-item.invariant.settled
    (omega (arith, c.loop-item-test.false, c.loop-item.auto.item-index-end))

-- the settled times are those of frozen items, which are below 2 ^ 58
pub returns-clause-early : goal.returns-clause-early
returns-clause-early c =
    settled_early c.args.setting.now.problem.now c.args.setting.now.order.now c.requires.setting.topological
    c.args.items.now c.loop-item.item-index c.loop-item.frozen c.loop-item.invariant.settled
    c.requires.setting.admitted.1.limits

-- the examples are scenarios of the graph
pub advance-requires-clause-scenarios : goal.advance-requires-clause-scenarios
advance-requires-clause-scenarios c =
    let scenarios = c.args.scenarios.now in
    All-weaker (Contains scenarios) (IsScenario c.args.setting.now.problem.now) c.requires.scenarios.lawful scenarios
    (All-contains_itself scenarios)
