-- Proof of `rows`: the rows of all items of a graph, given all scenarios, each once, and their runs: one entry for each
-- group of scenarios in which the same literals are carried beside the item's time, merged.
use Rattle.std.proofs.Common.{◌≡◌, ◌∙◌, length, map, replicate, [], List, sym, ap, subst, arith}
use Rattle.cpg_base.specs.Graph.{Graph, process_count, item_count}
use Rattle.cpg_base.specs.Numbers.{numbers_below}
use Rattle.cpg_table.specs.Table.{Row}
use Rattle.cpg_run.specs.Rows.{AreRows}
use Rattle.cpg_list.specs.Made.{AreMade, IsBefore}
use Rattle.cpg_run.specs.Found.{columns_of_rows}
use Rattle.cpg_list.proofs.CodeFirst.{blank, none_made, none_carried, all_rows}
use Rattle.cpg_list.proofs.making.rows.Goals as goal

-- before the first place no item is done, and the cubes of no literals are those that match every scenario
pub loop-place-init : goal.loop-place-init
loop-place-init c =
    let admitted = c.args.admitted.now in
    let graph = admitted.graph in
    let order = c.args.order.now in
    let count = length c.args.scenarios.now in
    let same_graph = c.problem-problem.ensures.problem in
    record {
      carried = none_carried graph order (columns_of_rows c.in_ok-rows.rows.items) c.args.scenarios.now
          c.in_ok-known.known.items c.in_ok-queues.queues.items
          (c.in_ok-known.ensures ∙ ap (λ (h : Graph). replicate (length h.nodes) (replicate count [])) same_graph)
          (c.in_ok-queues.ensures ∙ ap (λ (h : Graph). replicate (length h.nodes) (replicate count [])) same_graph);
      made = none_made graph order admitted.order c.args.frozen.now c.in_ok-rows.rows.items
          (c.in_ok-rows.ensures ∙ ap (λ (h : Graph). map blank (numbers_below (item_count h))) same_graph);
    }

-- after the last place each item has its row, as each comes from some process
pub returns-clause-rows : goal.returns-clause-rows
returns-clause-rows c =
    let admitted = c.args.admitted.now in
    let graph = admitted.graph in
    let order = c.args.order.now in
    -- the loop ends behind the last place
    let last : c.loop-place.place ≡ process_count graph =
    omega (
      arith,
      ap length c.processes.ensures.processes,
      ap (λ (h : Graph). process_count h) c.problem-problem.ensures.problem,
      c.loop-place-test.false,
      c.loop-place.auto.place-end,
    ) in
    -- the copies have the same columns
    let same : c.in_ok-rows-2.rows.items ≡ c.loop-place.rows.items =
    c.in_ok-rows-2.ensures ∙ c.as_slice.ensures.value in
    subst (λ (rs : List Row). AreRows graph admitted.order order c.args.frozen.now (columns_of_rows rs)) (sym same)
    (all_rows graph order c.requires.topological admitted.order c.args.frozen.now c.loop-place.rows.items
    (subst (λ i. AreMade graph admitted.order order c.args.frozen.now (IsBefore graph order i)
    c.loop-place.rows.items) last
    c.loop-place.invariant.made))
