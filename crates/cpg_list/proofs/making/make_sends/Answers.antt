-- Proof of `make_sends`: makes the rows of what a process sends, and narrows what the queue of its node leaves.
use Rattle.std.proofs.Common.{◌≡◌, ◌∙◌, ◌+◌, ◌<◌, ◌⊎◌, ◌∷◌, [], ◌++◌, List, length, get_or, take, Contains, sym, ap}
use Rattle.std.proofs.Common.{subst, arith}
use Rattle.std.proofs.lemmas.List.{take_all}
use Rattle.cpg_base.specs.Graph.{Graph, item_count, node_of}
use Rattle.cpg_order.specs.Queue.{queued_before}
use Rattle.cpg_base.specs.Order.{place}
use Rattle.cpg_table.specs.Table.{Row}
use Rattle.cpg_bus.specs.Plan.{queue_of}
use Rattle.cpg_list.specs.Made.{queued_by, sent_before, AreCubesOf, AreEndsOf, AreMade, IsSent, IsRowSet}
use Rattle.cpg_run.specs.Found.{columns_of_rows}
use Rattle.cpg_run.specs.Rows.{AreEntriesOf}
use Rattle.cpg_list.proofs.CodeMade.{timed_of, count_of, mergeable, same_before, one_made, made_same}
use Rattle.cpg_list.proofs.CodeQueue.{queued_members, nth_queued, nth_place, nth_within, nth_earlier, nth_late, nth_new}
use Rattle.cpg_list.proofs.CodeQueue.{before_to, before_from, next_to, next_from, sent_next, sent_back, queue_early}
use Rattle.cpg_list.proofs.CodeQueue.{all_to, all_from, made_next}
use Rattle.cpg_list.proofs.CodeSame.{queued_cubes, ends_cubes}
use Rattle.cpg_list.proofs.making.make_sends.Goals as goal

-- the item is one of those that the process sends
pub send_entries-requires-clause-item : goal.send_entries-requires-clause-item
send_entries-requires-clause-item c =
    let graph = c.args.listed.now.admitted.now.graph in
    let process = c.args.process in
    let index = c.loop-item.item-index in
    -- the code goes over the queue of the process
    let all : c.queue-item-items.result.now ≡ queue_of graph process =
    c.queue-item-items.ensures ∙ ap (λ (h : Graph). queue_of h process) c.problem.ensures.problem in
    let inside : index < length (queue_of graph process) = omega (arith, ap length all, c.loop-item-test.true) in
    subst (Contains (queue_of graph process)) (ap (λ xs. get_or xs index 0) (sym all))
    (nth_queued graph c.args.listed.now.order.now c.requires.listed.topological process c.requires.process index inside)

-- the cubes at the ends of the process stay right while the rows of its own items are made
pub send_entries-requires-clause-ends : goal.send_entries-requires-clause-ends
send_entries-requires-clause-ends c =
    let graph = c.args.listed.now.admitted.now.graph in
    let order = c.args.listed.now.order.now in
    let process = c.args.process in
    subst (λ (rs : List Row). AreEndsOf graph order (columns_of_rows rs) c.args.listed.now.scenarios.now
    process c.args.ends.now)
    (sym c.as_slice.ensures.value)
    (ends_cubes graph order c.requires.listed.topological (columns_of_rows c.args.rows.now.items)
    (columns_of_rows c.loop-item.rows.items)
    (place order process) c.loop-item.invariant.same c.args.listed.now.scenarios.now process c.args.ends.now
    (omega arith) c.requires.ends)

-- the cubes are those of what the items before this one leave: the items so far are just the ones that are before it in
-- the node's queue
pub send_entries-requires-clause-queue : goal.send_entries-requires-clause-queue
send_entries-requires-clause-queue c =
    let graph = c.args.listed.now.admitted.now.graph in
    let order = c.args.listed.now.order.now in
    let process = c.args.process in
    let index = c.loop-item.item-index in
    let scenarios = c.args.listed.now.scenarios.now in
    -- the item is the one at place `index` of the process's queue
    let all : c.queue-item-items.result.now ≡ queue_of graph process =
    c.queue-item-items.ensures ∙ ap (λ (h : Graph). queue_of h process) c.problem.ensures.problem in
    let inside : index < length (queue_of graph process) = omega (arith, ap length all, c.loop-item-test.true) in
    let rows = columns_of_rows c.loop-item.rows.items in
    let nth = get_or (queue_of graph process) index 0 in
    -- the cubes of the queue are those of the items before this one, since the same items are in both
    subst (λ (rs : List Row). AreCubesOf graph.faults scenarios (queued_by graph order (columns_of_rows rs)
    (queued_before graph order (get_or c.queue-item-items.result.now index 0))) c.loop-item.queue)
    (sym c.as_slice.ensures.value)
    (subst (λ x. AreCubesOf graph.faults scenarios
    (queued_by graph order rows (queued_before graph order x)) c.loop-item.queue)
    (ap (λ xs. get_or xs index 0) (sym all))
    (queued_members graph.faults graph order rows scenarios c.loop-item.queue
    (sent_before graph order (node_of graph process) (place order process) ++ take index (queue_of graph process))
    (queued_before graph order nth)
    (before_from graph order c.requires.listed.topological process c.requires.process index inside)
    (before_to graph order c.requires.listed.topological process c.requires.process index inside)
    c.loop-item.invariant.queue))

-- the item is one of the graph
pub set_row-requires-clause-item : goal.set_row-requires-clause-item
set_row-requires-clause-item c =
    let graph = c.args.listed.now.admitted.now.graph in
    let process = c.args.process in
    let index = c.loop-item.item-index in
    -- the code goes over the queue of the process
    let all : c.queue-item-items.result.now ≡ queue_of graph process =
    c.queue-item-items.ensures ∙ ap (λ (h : Graph). queue_of h process) c.problem.ensures.problem in
    let inside : index < length (queue_of graph process) = omega (arith, ap length all, c.loop-item-test.true) in
    omega (
      arith,
      ap (λ xs. get_or xs index 0) all,
      nth_within graph c.args.listed.now.order.now c.requires.listed.topological process
          c.requires.process index inside,
      count_of c.loop-item.rows.items (item_count graph) c.loop-item.invariant.made.items,
    )

-- the entries of the item can be merged, as all earlier rows are made
pub set_row-requires-clause-entries : goal.set_row-requires-clause-entries
set_row-requires-clause-entries c =
    let admitted = c.args.listed.now.admitted.now in
    let graph = admitted.graph in
    let order = c.args.listed.now.order.now in
    let frozen = c.args.listed.now.frozen.now in
    let process = c.args.process in
    let index = c.loop-item.item-index in
    let entries = c.in_ok-entries.entries.items in
    -- the item is the one at place `index` of the process's queue
    let all : c.queue-item-items.result.now ≡ queue_of graph process =
    c.queue-item-items.ensures ∙ ap (λ (h : Graph). queue_of h process) c.problem.ensures.problem in
    let inside : index < length (queue_of graph process) = omega (arith, ap length all, c.loop-item-test.true) in
    let nth = get_or (queue_of graph process) index 0 in
    let timed = timed_of graph admitted.order order admitted.guards frozen c.problem.ensures.admitted
    c.requires.listed.topological
    c.requires.listed.frozen in
    -- the entries are those of this item
    let found = subst (λ x. AreEntriesOf graph order frozen (columns_of_rows c.loop-item.rows.items) x entries)
    (ap (λ xs. get_or xs index 0) all)
    (subst (λ (rs : List Row). AreEntriesOf graph order frozen (columns_of_rows rs)
    (get_or c.queue-item-items.result.now index 0) entries) c.as_slice.ensures.value c.in_ok-entries.ensures.entries) in
    -- so they can be merged, as it is of the graph and earlier rows are made
    mergeable graph admitted.order order frozen timed (IsSent graph order process index) c.loop-item.rows.items
    c.loop-item.invariant.made nth
    (nth_within graph order c.requires.listed.topological process c.requires.process index inside)
    (nth_earlier graph order c.requires.listed.topological process c.requires.process index inside) entries found

-- the item's row is made and the item is in the queue, so one item more of the process is done
pub loop-item-preserved : goal.loop-item-preserved
loop-item-preserved c =
    let admitted = c.args.listed.now.admitted.now in
    let graph = admitted.graph in
    let order = c.args.listed.now.order.now in
    let frozen = c.args.listed.now.frozen.now in
    let process = c.args.process in
    let index = c.loop-item.item-index in
    let scenarios = c.args.listed.now.scenarios.now in
    let entries = c.in_ok-entries.entries.items in
    let top = c.requires.listed.topological in
    let within = c.requires.process in
    let rows = c.loop-item.rows.items in
    let next = c.set_row.new.rows.items in
    -- the item is the one at place `index` of the process's queue
    let all : c.queue-item-items.result.now ≡ queue_of graph process =
    c.queue-item-items.ensures ∙ ap (λ (h : Graph). queue_of h process) c.problem.ensures.problem in
    let inside : index < length (queue_of graph process) = omega (arith, ap length all, c.loop-item-test.true) in
    let nth = get_or (queue_of graph process) index 0 in
    let here : get_or c.queue-item-items.result.now index 0 ≡ nth = ap (λ xs. get_or xs index 0) all in
    let timed = timed_of graph admitted.order order admitted.guards frozen c.problem.ensures.admitted top
    c.requires.listed.frozen in
    -- the entries are those of this item, and its row is set by them
    let found = subst (λ x. AreEntriesOf graph order frozen (columns_of_rows rows) x entries) here
    (subst (λ (rs : List Row). AreEntriesOf graph order frozen (columns_of_rows rs)
    (get_or c.queue-item-items.result.now index 0) entries) c.as_slice.ensures.value c.in_ok-entries.ensures.entries) in
    let is = subst (λ x. IsRowSet graph admitted.order x entries rows next) here c.in_ok-set_row.ensures in
    -- the rows up to this one are made, and no earlier one is changed
    let made = one_made graph admitted.order order frozen timed (IsSent graph order process index) rows
    c.loop-item.invariant.made nth
    (nth_within graph order top process within index inside)
    (nth_earlier graph order top process within index inside) entries found
    (nth_new graph order top process within index inside)
    (nth_late graph order top process within index inside) next is in
    let same = same_before graph admitted.order order frozen timed (IsSent graph order process index) rows
    c.loop-item.invariant.made nth
    (nth_within graph order top process within index inside)
    (nth_earlier graph order top process within index inside) entries found
    (nth_new graph order top process within index inside) (nth_late graph order top process within index inside)
    next is (place order process)
    (omega (arith, nth_place graph order top process within index inside)) in
    -- the items before this one in its node's queue, and this one
    let items = queued_before graph order nth ++ nth ∷ [] in
    let after = sent_before graph order (node_of graph process) (place order process)
    ++ take (index + 1) (queue_of graph process) in
    -- the cubes that are left are those of the queue up to the item
    let left = subst (λ x. AreCubesOf graph.faults scenarios
    (queued_by graph order (columns_of_rows rows) (queued_before graph order x ++ x ∷ []))
    c.send_entries.new.queue) here
    (subst (λ (rs : List Row). AreCubesOf graph.faults scenarios
    (queued_by graph order (columns_of_rows rs)
    (queued_before graph order (get_or c.queue-item-items.result.now index 0)
    ++ get_or c.queue-item-items.result.now index 0 ∷ [])) c.send_entries.new.queue)
    c.as_slice.ensures.value c.in_ok-entries.ensures.queue) in
    -- the rows made, the queue with one item more, and the rows that stay as they were
    record {
      made = made_same graph admitted.order order frozen (λ y. IsSent graph order process index y ⊎ (y ≡ nth))
          (IsSent graph order process (index + 1)) next
          made (sent_back graph order top process within index inside)
          (sent_next graph order top process within index inside);
      queue = queued_members graph.faults graph order (columns_of_rows next) scenarios
          c.send_entries.new.queue items after
          (next_to graph order top process within index inside) (next_from graph order top process within index inside)
          (queued_cubes graph order top (columns_of_rows rows) (columns_of_rows next)
          (place order process) same graph.faults scenarios c.send_entries.new.queue items
          (λ y there. queue_early graph order top process within (index + 1) y
          (next_to graph order top process within index inside y there)) left);
      same = λ y e. c.loop-item.invariant.same y e ∙ same y e;
    }

-- after the loop the cubes have what all items of the process leave, which with the earlier ones are all that the node sends
-- before the next place
pub returns-clause-queue : goal.returns-clause-queue
returns-clause-queue c =
    let graph = c.args.listed.now.admitted.now.graph in
    let order = c.args.listed.now.order.now in
    let process = c.args.process in
    let index = c.loop-item.item-index in
    let scenarios = c.args.listed.now.scenarios.now in
    let top = c.requires.listed.topological in
    let within = c.requires.process in
    let rows = columns_of_rows c.loop-item.rows.items in
    let earlier_items = sent_before graph order (node_of graph process) (place order process) in
    -- the code goes over the queue of the process
    let all : c.queue-item-items.result.now ≡ queue_of graph process =
    c.queue-item-items.ensures ∙ ap (λ (h : Graph). queue_of h process) c.problem.ensures.problem in
    -- the loop has gone over the whole queue
    let whole : take index (queue_of graph process) ≡ queue_of graph process =
    take_all index (queue_of graph process) (omega (arith, ap length all, c.loop-item-test.false)) in
    queued_members graph.faults graph order rows scenarios c.loop-item.queue (earlier_items ++ queue_of graph process)
    (sent_before graph order (node_of graph process) (place order process + 1)) (all_to graph order top process within)
    (all_from graph order top process within)
    (subst (λ ys. AreCubesOf graph.faults scenarios (queued_by graph order rows (earlier_items ++ ys))
    c.loop-item.queue) whole
    c.loop-item.invariant.queue)

-- all items of the process are made, so all before the next place are
pub returns-clause-made : goal.returns-clause-made
returns-clause-made c =
    let admitted = c.args.listed.now.admitted.now in
    let graph = admitted.graph in
    let order = c.args.listed.now.order.now in
    let process = c.args.process in
    -- the code goes over the queue of the process
    let all : c.queue-item-items.result.now ≡ queue_of graph process =
    c.queue-item-items.ensures ∙ ap (λ (h : Graph). queue_of h process) c.problem.ensures.problem in
    let last : c.loop-item.item-index ≡ length (queue_of graph process) =
    omega (arith, ap length all, c.loop-item-test.false, c.loop-item.auto.item-index-end) in
    made_next graph order c.requires.listed.topological process c.requires.process admitted.order
    c.args.listed.now.frozen.now
    c.loop-item.rows.items
    (subst (λ n. AreMade graph admitted.order order c.args.listed.now.frozen.now (IsSent graph order process n)
    c.loop-item.rows.items) last
    c.loop-item.invariant.made)
