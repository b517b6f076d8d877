-- Proof of `send_in`: the entry of an item in a scenario, or `None` if it isn't sent there or the scenario isn't the
-- least of its cube; narrows what the queue leaves.
use Rattle.std.proofs.Common.{◌≡◌, ◌∙◌, ◌<◌, Contains, true, is_some, sym, ap, subst}
use Rattle.cpg_base.specs.Graph.{Graph, item_count, item_at}
use Rattle.cpg_base.specs.Activity.{active, item_active}
use Rattle.cpg_bus.specs.Plan.{queue_of}
use Rattle.cpg_run.specs.Carried.{decided}
use Rattle.cpg_list.specs.Learning.{Within, send_after, queued_after}
use Rattle.cpg_list.specs.Narrowing.{IsNarrowed, IsEntryOf, IsEntryAt}
use Rattle.cpg_run.specs.Rows.{IsCubeOf}
use Rattle.cpg_list.proofs.CodeSends.{queue_by, queue_within}
use Rattle.cpg_run.proofs.SameSends.{producer_active}
use Rattle.cpg_list.proofs.sends.send_in.Goals as goal

-- what a process sends is an item of the graph
pub is_frozen-requires : goal.is_frozen-requires
is_frozen-requires c = subst (λ (h : Graph). c.args.sending.item < item_count h) (sym c.problem-problem.ensures.problem)
    (queue_within c.args.admitted.now.graph c.args.sending.process c.args.sending.item c.requires.item)

-- the item is in the queue of the process, and the problem is the admitted graph
pub send_plain-requires-clause-item : goal.send_plain-requires-clause-item
send_plain-requires-clause-item c =
    subst (λ (h : Graph). Contains (queue_of h c.args.sending.process) c.args.sending.item)
    (sym c.problem-problem.ensures.problem) c.requires.item

-- a frozen item: the entry has the item's time of the run
pub returns-then-is_frozen-clause-entry : goal.returns-then-is_frozen-clause-entry
returns-then-is_frozen-clause-entry c queue ends is_queue is_end =
    let graph = c.args.admitted.now.graph in
    let scenario = c.args.scenario.now in
    subst (λ o. IsEntryAt graph scenario o
    (send_after graph scenario c.args.sending.item queue ends) c.in_ok-entry.entry)
    (sym c.in-Some.is ∙ c.time.ensures) (c.in_ok-entry.ensures.entry queue ends)

-- an item that isn't frozen: as it has a time, it and its process are active, so the cube of the end is known; the entry has
-- the item's time of the run
pub returns-clause-entry : goal.returns-clause-entry
returns-clause-entry c queue ends is_queue is_end =
    let graph = c.args.admitted.now.graph in
    let scenario = c.args.scenario.now in
    let item = c.args.sending.item in
    let process = c.args.sending.process in
    let acts : item_active graph scenario.values (item_at graph item) ≡ true =
    sym c.requires.item_active ∙ ap is_some (sym c.time.ensures ∙ c.in-Some.is) in
    let on : active graph scenario.values process ≡ true =
    ap (active graph scenario.values) (sym (queue_by graph process item c.requires.item))
    ∙ producer_active graph scenario.values (item_at graph item) acts in
    let found = subst (λ (h : Graph). IsCubeOf h.faults queue c.args.queue.now → IsCubeOf h.faults ends c.args.end.now →
    IsEntryOf h scenario c.in-Some.time (send_after h scenario item queue ends) c.in_ok-entry-2.entry)
    c.problem-problem.ensures.problem
    (c.in_ok-entry-2.ensures.entry queue ends) in
    subst (λ o. IsEntryAt graph scenario o (send_after graph scenario item queue ends) c.in_ok-entry-2.entry)
    (sym c.in-Some.is ∙ c.time.ensures)
    (found is_queue (is_end.cube on))

-- an item that isn't frozen: as it has a time, it and its process are active, and it leaves what is carried at the end
pub returns-clause-queue : goal.returns-clause-queue
returns-clause-queue c ends is_end =
    let graph = c.args.admitted.now.graph in
    let scenario = c.args.scenario.now in
    let item = c.args.sending.item in
    let process = c.args.sending.process in
    let acts : item_active graph scenario.values (item_at graph item) ≡ true =
    sym c.requires.item_active ∙ ap is_some (sym c.time.ensures ∙ c.in-Some.is) in
    let on : active graph scenario.values process ≡ true =
    ap (active graph scenario.values) (sym (queue_by graph process item c.requires.item))
    ∙ producer_active graph scenario.values (item_at graph item) acts in
    let found = subst (λ (h : Graph). IsCubeOf h.faults ends c.args.end.now → Within (decided h scenario process) ends →
    IsNarrowed h.faults (queued_after h scenario item ends) c.args.queue.now c.send_plain.new.queue)
    c.problem-problem.ensures.problem (c.in_ok-entry-2.ensures.queue ends) in
    found (is_end.cube on) is_end.decided
