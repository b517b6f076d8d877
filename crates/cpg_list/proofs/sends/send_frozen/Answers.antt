-- Proof of `send_frozen`: the entry of a frozen message that is sent in the scenario, or `None` if the scenario isn't
-- the least of its cube; narrows what the queue leaves.
use Rattle.std.proofs.Common.{◌≡◌, ◌∙◌, ◌++◌, true, sym, ap, subst}
use Rattle.cpg_base.specs.Graph.{Graph, item_at}
use Rattle.cpg_base.specs.Activity.{active}
use Rattle.cpg_run.specs.Carried.{decided, sent_by_value}
use Rattle.cpg_list.specs.Narrowing.{IsNarrowed, IsEntryWith, IsEntryOf}
use Rattle.cpg_list.proofs.CodeStarts.{kept_of, from_whole}
use Rattle.cpg_list.proofs.CodeSends.{queue_by, left_frozen, sends_frozen}
use Rattle.cpg_run.proofs.SameSends.{producer_active}
use Rattle.cpg_list.proofs.sends.send_frozen.Goals as goal

-- the cube of the entry is that of what decides the process and whether the message is sent; a frozen message carries no
-- more
pub returns-clause-entry : goal.returns-clause-entry
returns-clause-entry c queue ends =
    let graph = c.args.admitted.now.graph in
    let scenario = c.args.scenario.now in
    let process = c.args.process in
    let literals = decided graph scenario process ++ sent_by_value graph scenario c.args.item in
    let is = from_whole graph.faults literals c.whole-cube.result c.narrow_by_sending.new.cube c.whole-cube.ensures
    c.in_ok-narrow_by_sending.ensures in
    subst (λ ls. IsEntryOf graph scenario c.args.time ls c.in_ok-entry.entry)
    (sym (sends_frozen graph scenario process c.args.item (queue_by graph process c.args.item c.requires.item) ends
    queue c.requires.frozen))
    (kept_of graph scenario c.args.time literals c.narrow_by_sending.new.cube is c.in_ok-entry.entry
    (subst (λ (h : Graph). IsEntryWith h scenario c.args.time c.narrow_by_sending.new.cube c.in_ok-entry.entry)
    c.problem.ensures.problem c.in_ok-entry.ensures))

-- the cube of the queue is narrowed by the same literals; a frozen message leaves no more
pub returns-clause-queue : goal.returns-clause-queue
returns-clause-queue c ends =
    let graph = c.args.admitted.now.graph in
    let scenario = c.args.scenario.now in
    let process = c.args.process in
    let item = c.args.item in
    let literals = decided graph scenario process ++ sent_by_value graph scenario item in
    let by = queue_by graph process item c.requires.item in
    let is = from_whole graph.faults literals c.whole-cube.result c.narrow_by_sending.new.cube c.whole-cube.ensures
    c.in_ok-narrow_by_sending.ensures in
    let on : active graph scenario.values process ≡ true =
    ap (active graph scenario.values) (sym by)
    ∙ producer_active graph scenario.values (item_at graph item) c.requires.active in
    subst (λ ls. IsNarrowed graph.faults ls c.args.queue.now c.narrow_by_cube.new.cube)
    (sym (left_frozen graph scenario process item by ends on c.requires.active c.requires.frozen))
    (c.in_ok-narrow_by_cube.ensures graph.faults literals is)
