-- Proof of `send_plain`: the entry of an item that isn't frozen and is sent in the scenario, or `None` if the scenario
-- isn't the least of its cube; narrows what the queue leaves.
use Rattle.std.proofs.Common.{◌≡◌, ◌∙◌, ◌++◌, true, sym, ap, subst}
use Rattle.cpg_base.specs.Graph.{item_at}
use Rattle.cpg_base.specs.Activity.{active}
use Rattle.cpg_run.specs.Carried.{decided, sent_by_value}
use Rattle.cpg_list.specs.Narrowing.{IsNarrowed, IsEntryOf}
use Rattle.cpg_list.proofs.CodeCubes.{narrowed_then}
use Rattle.cpg_list.proofs.CodeStarts.{kept_of}
use Rattle.cpg_list.proofs.CodeSends.{queue_by, left_plain, sends_plain, end_with_value}
use Rattle.cpg_run.proofs.SameSends.{producer_active}
use Rattle.cpg_list.proofs.sends.send_plain.Goals as goal

-- the cube of the queue is narrowed by the end of the process and by the value that decides the sending, so the entry's cube
-- is that of all three
pub returns-clause-entry : goal.returns-clause-entry
returns-clause-entry c queue ends is_queue is_ends =
    let graph = c.args.problem.now in
    let scenario = c.args.scenario.now in
    let process = c.args.sending.process in
    let item = c.args.sending.item in
    let by_end = (c.in_ok-narrow_by_cube.ensures graph.faults ends is_ends).by queue is_queue in
    let by_value = c.in_ok-narrow_by_sent_value.ensures.by (queue ++ ends) by_end in
    subst (λ ls. IsEntryOf graph scenario c.args.time ls c.in_ok-entry.entry)
    (sym (sends_plain graph scenario process item (queue_by graph process item c.requires.item)
    ends queue c.requires.plain))
    (kept_of graph scenario c.args.time (queue ++ ends ++ sent_by_value graph scenario item)
    c.narrow_by_sent_value.new.cube by_value
    c.in_ok-entry.entry c.in_ok-entry.ensures)

-- the queue is narrowed by the producer's end and the value that decides the sending
pub returns-clause-queue : goal.returns-clause-queue
returns-clause-queue c ends is_ends within =
    let graph = c.args.problem.now in
    let scenario = c.args.scenario.now in
    let process = c.args.sending.process in
    let item = c.args.sending.item in
    let by = queue_by graph process item c.requires.item in
    let on : active graph scenario.values process ≡ true =
    ap (active graph scenario.values) (sym by)
    ∙ producer_active graph scenario.values (item_at graph item) c.requires.active in
    subst (λ ls. IsNarrowed graph.faults ls c.args.queue.now c.narrow_by_sent_value.new.cube)
    (sym (left_plain graph scenario process item by ends on c.requires.active c.requires.plain))
    (end_with_value graph.faults (decided graph scenario process)
    (sent_by_value graph scenario item) ends c.args.queue.now c.narrow_by_sent_value.new.cube within
    (narrowed_then graph.faults ends
    (sent_by_value graph scenario item) c.args.queue.now c.narrow_by_cube.new.cube c.narrow_by_sent_value.new.cube
    (c.in_ok-narrow_by_cube.ensures graph.faults ends is_ends) c.in_ok-narrow_by_sent_value.ensures))
