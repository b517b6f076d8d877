-- Proof of `send_entries`: the entries of an item that a process sends, each in the least scenario of its cube; narrows
-- for each scenario what the queue leaves.
use Rattle.std.proofs.Common.{◌≡◌, ◌++◌, ◌∷◌, [], get_or, take, None, sym, subst, arith}
use Rattle.std.proofs.lemmas.List.{take_all}
use Rattle.cpg_order.specs.Queue.{queued_before}
use Rattle.cpg_run.specs.Carried.{queued, carried_at_end}
use Rattle.cpg_list.specs.Made.{queued_by, AreCubesOf, AreEndsOf}
use Rattle.cpg_run.specs.Found.{columns_of_rows}
use Rattle.cpg_list.specs.Narrowing.{IsEntryAt, IsNarrowed}
use Rattle.cpg_run.specs.Rows.{IsCubeOf}
use Rattle.cpg_list.proofs.CodeStarts.{timed_here, found_more, cube_here, none_done, all_done, one_done, flat_map_push}
use Rattle.cpg_list.proofs.CodeSends.{carried_send, queued_is, end_here, queue_within}
use Rattle.cpg_run.proofs.EntriesFound.{AreEntriesAmong, none_yet, all_found}
use Rattle.cpg_list.proofs.sends.send_entries.Goals as goal

-- before the first scenario, there are no entries and the queue is as before
pub loop-at-init : goal.loop-at-init
loop-at-init c =
    let graph = c.args.listed.now.admitted.now.graph in
    let order = c.args.listed.now.order.now in
    let rows = columns_of_rows c.args.rows.now in
    let earlier_items = queued_before graph order c.args.item in
    record {
      found = subst (AreEntriesAmong graph order c.args.listed.now.frozen.now rows c.args.item [])
          (sym c.new-entries.ensures.items) (none_yet graph order c.args.listed.now.frozen.now rows c.args.item);
      carried = none_done graph.faults c.args.listed.now.scenarios.now (queued_by graph order rows earlier_items)
          (queued_by graph order rows (earlier_items ++ c.args.item ∷ [])) c.queue.inside.cubes.items
          (subst (AreCubesOf graph.faults c.args.listed.now.scenarios.now (queued_by graph order rows earlier_items))
          (sym c.queue.view_is) c.requires.queue);
    }

-- the process has a time in the scenario exactly if it is active
pub send_in-requires-clause-process_active : goal.send_in-requires-clause-process_active
send_in-requires-clause-process_active c =
    let graph = c.args.listed.now.admitted.now.graph in
    timed_here graph c.args.listed.now.order.now c.requires.listed.topological c.args.listed.now.frozen.now
    [] c.args.process
    (omega (arith, c.requires.process)) c.args.listed.now.scenarios.now c.args.listed.now.runs.now
    c.requires.listed.scenarios c.requires.listed.runs
    c.loop-at.at c.index-scenarios-at.result c.index-runs-at.result c.loop-at-test.true c.index-scenarios-at.is
    c.index-runs-at.is

-- the item has a time in the scenario exactly if it is active
pub send_in-requires-clause-item_active : goal.send_in-requires-clause-item_active
send_in-requires-clause-item_active c =
    let graph = c.args.listed.now.admitted.now.graph in
    timed_here graph c.args.listed.now.order.now c.requires.listed.topological
    c.args.listed.now.frozen.now [] c.args.item
    (queue_within graph c.args.process c.args.item c.requires.item) c.args.listed.now.scenarios.now
    c.args.listed.now.runs.now c.requires.listed.scenarios c.requires.listed.runs
    c.loop-at.at c.index-scenarios-at.result c.index-runs-at.result c.loop-at-test.true c.index-scenarios-at.is
    c.index-runs-at.is

-- the entry of the scenario is added, if there is one, and the cube of its queue is replaced
pub loop-at-preserved : goal.loop-at-preserved
loop-at-preserved c =
    let graph = c.args.listed.now.admitted.now.graph in
    let order = c.args.listed.now.order.now in
    let rows = columns_of_rows c.args.rows.now in
    let process = c.args.process in
    let item = c.args.item in
    let scenario = c.index-scenarios-at.result in
    let times = c.index-runs-at.result in
    -- what the queue and the end of the process carry in the scenario
    let earlier_items = queued_before graph order item in
    let queue = queued_by graph order rows earlier_items scenario in
    let ends = carried_at_end graph order rows scenario process in
    let cubes = c.loop-at.queue-inside.cubes.items in
    -- the cube of the queue for this scenario
    let is = cube_here graph.faults c.args.listed.now.scenarios.now (queued_by graph order rows earlier_items)
    (queued_by graph order rows (earlier_items ++ item ∷ [])) c.loop-at.at cubes scenario
    c.index_mut.result.now c.loop-at-test.true
    c.index-scenarios-at.is
    c.loop-at.invariant.carried c.index_mut.ensures.value in
    -- the cube of the end for this scenario
    let end = end_here graph order rows c.args.listed.now.scenarios.now process c.ends.inside.cubes.items
    (subst (AreEndsOf graph order rows c.args.listed.now.scenarios.now process) (sym c.ends.view_is)
    c.requires.ends) c.loop-at.at
    scenario c.index.result.now
    c.loop-at-test.true c.index-scenarios-at.is c.index.ensures in
    -- the entry is kept if the scenario is the least of what is carried at the send
    let entry = subst (λ ls. IsEntryAt graph scenario (get_or times.times item None) ls c.in_ok-entry.entry)
    (sym (carried_send graph order rows scenario process item c.requires.item))
    (c.in_ok-entry.ensures.entry queue ends is end) in
    let left = subst (λ ls. IsNarrowed graph.faults ls c.index_mut.result.now c.send_in.new.queue)
    (sym (queued_is graph order rows scenario process item c.requires.item)) (c.in_ok-entry.ensures.queue ends end) in
    -- the entries with this one, and the cubes with what the item leaves in the queue
    record {
      found = found_more graph order c.requires.listed.topological c.args.listed.now.frozen.now rows item
          (queue_within graph process item c.requires.item) c.args.listed.now.scenarios.now c.args.listed.now.runs.now
          c.requires.listed.scenarios c.requires.listed.runs c.loop-at.at scenario times
          c.loop-at-test.true c.index-scenarios-at.is c.index-runs-at.is c.loop-at.entries.items
          c.push_entry.new.entries.items c.loop-at.invariant.found c.in_ok-entry.entry entry
          c.in_ok-push_entry.ensures;
      carried = one_done graph.faults c.args.listed.now.scenarios.now (queued_by graph order rows earlier_items)
          (queued_by graph order rows (earlier_items ++ item ∷ [])) c.loop-at.at cubes scenario
          c.send_in.new.queue c.loop-at-test.true
          c.loop-at.invariant.carried
          c.index-scenarios-at.is (subst (λ ls. IsCubeOf graph.faults ls c.send_in.new.queue)
          (flat_map_push (queued graph order rows scenario) earlier_items item) (left.by queue is));
    }

-- the loop has seen all scenarios, so the entries are all of the item
pub returns-clause-entries : goal.returns-clause-entries
returns-clause-entries c =
    let graph = c.args.listed.now.admitted.now.graph in
    let rows = columns_of_rows c.args.rows.now in
    let all : take c.loop-at.at c.args.listed.now.scenarios.now ≡ c.args.listed.now.scenarios.now =
    take_all c.loop-at.at c.args.listed.now.scenarios.now c.loop-at-test.false in
    all_found graph c.args.listed.now.order.now c.args.listed.now.frozen.now rows c.args.item
    c.args.listed.now.scenarios.now c.loop-at.entries.items
    (subst (λ ds. AreEntriesAmong graph c.args.listed.now.order.now c.args.listed.now.frozen.now rows c.args.item ds
    c.loop-at.entries.items) all c.loop-at.invariant.found) c.requires.listed.scenarios.all

-- the loop has seen all scenarios, so all cubes of the queue have the item
pub returns-clause-queue : goal.returns-clause-queue
returns-clause-queue c =
    let graph = c.args.listed.now.admitted.now.graph in
    let order = c.args.listed.now.order.now in
    let rows = columns_of_rows c.args.rows.now in
    let earlier_items = queued_before graph order c.args.item in
    all_done graph.faults c.args.listed.now.scenarios.now (queued_by graph order rows earlier_items)
    (queued_by graph order rows (earlier_items ++ c.args.item ∷ [])) c.loop-at.at c.loop-at.queue-inside.cubes.items
    c.loop-at-test.false c.loop-at.invariant.carried
