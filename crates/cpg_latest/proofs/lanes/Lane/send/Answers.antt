-- Proof of `Lane::send`: sends the item at a place in the queue of a process in each course of a track, if it is
-- active.
use Rattle.std.proofs.Common.{◌≡◌, ◌∙◌, ◌+◌, ◌^◌, ◌<◌, false, true, refl, sym, ap, length, get_or, Contains, subst}
use Rattle.std.proofs.Common.{arith}
use Rattle.std.proofs.lemmas.List.Elements.{Contains-get_or}
use Rattle.cpg_base.specs.Activity.{item_active}
use Rattle.cpg_base.specs.Graph.{item_at}
use Rattle.cpg_bus.specs.Plan.{queue_of}
use Rattle.cpg_bus.proofs.Queued.{in_queue}
use Rattle.cpg_run.proofs.Senders.{queued_slot}
use Rattle.cpg_latest.specs.Course.{IsDone, IsLane}
use Rattle.cpg_latest.specs.Lanes.{HasSentTo, course_sent, queued, send_at}
use Rattle.cpg_latest.proofs.CourseSteps.{unsent}
use Rattle.cpg_latest.proofs.Found.{on_graph}
use Rattle.cpg_latest.proofs.Halves.{half_first, half_more, half_all}
use Rattle.cpg_latest.proofs.LaneSteps.{item_sent, item_small, lane_map}
use Rattle.cpg_latest.proofs.lanes.Lane.send.Goals as goal

-- the item is in the queue of the process, as `at` is below its length
pub is_sent-requires-clause-item : goal.is_sent-requires-clause-item
is_sent-requires-clause-item c =
    subst (λ xs. Contains xs (get_or c.queue.result.now c.args.at 0)) c.queue.ensures
    (Contains-get_or c.queue.result.now c.args.at 0 (omega (arith, c.requires.at, ap length c.queue.ensures)))

-- the item isn't sent in the track, so each course as it is has sent one item more
pub returns-then-not-is_sent : goal.returns-then-not-is_sent
returns-then-not-is_sent c =
    let graph = c.args.setting.now.problem.now in
    let order = c.args.setting.now.order.now in
    let process = c.args.process in
    let values = c.args.asked.now.scenario.now.values in
    let here : get_or c.queue.result.now c.args.at 0 ≡ queued graph process c.args.at =
    ap (λ xs. get_or xs c.args.at 0) c.queue.ensures in
    lane_map graph (HasSentTo c.args.setting.now c.args.frozen.now process (c.args.at + 1) c.args.at values)
    (HasSentTo c.args.setting.now c.args.frozen.now process (c.args.at + 1) (c.args.at + 1) values) c.args.self.now
    (λ n course few s. unsent graph order c.requires.setting.topological
    (IsDone graph order process (c.args.at + 1)) c.args.frozen.now values process c.requires.process
    (on_graph graph c.requires.setting.admitted.1.limits process c.requires.process) n few
    c.args.at c.requires.at course s (λ acts. subst (λ y. item_active graph values (item_at graph y) ≡ false) here
    (c.is_sent.ensures.unsent c.if-not-is_sent.true acts))) c.requires.lane

-- at first the item is still to be sent in each course
pub loop-faults-init : goal.loop-faults-init
loop-faults-init c = let lane = subst (IsLane c.args.setting.now.problem.now
    (HasSentTo c.args.setting.now c.args.frozen.now c.args.process
    (c.args.at + 1) c.args.at c.args.asked.now.scenario.now.values)) (sym c.self.view_is) c.requires.lane in
    half_first (HasSentTo c.args.setting.now c.args.frozen.now c.args.process
    (c.args.at + 1) c.args.at c.args.asked.now.scenario.now.values)
    (HasSentTo c.args.setting.now c.args.frozen.now c.args.process (c.args.at + 1)
    (c.args.at + 1) c.args.asked.now.scenario.now.values)
    (c.args.setting.now.problem.now.faults + 1) c.self.inside.courses.items lane.count lane.each

-- the item at this place of the queue is one of the graph
pub send_item-requires-clause-item : goal.send_item-requires-clause-item
send_item-requires-clause-item c =
    let graph = c.args.setting.now.problem.now in
    let item = get_or c.queue.result.now c.args.at 0 in
    (in_queue graph c.args.process item
    (subst (λ xs. Contains xs item) c.queue.ensures (Contains-get_or c.queue.result.now
    c.args.at 0 (omega (arith, c.requires.at, ap length c.queue.ensures))))).within

-- the node of the process has a slot, as it sends something
pub send_item-requires-clause-slot : goal.send_item-requires-clause-slot
send_item-requires-clause-slot c =
    let graph = c.args.setting.now.problem.now in
    queued_slot graph c.requires.setting.admitted.1.slots c.args.process (queued graph c.args.process c.args.at)
    (Contains-get_or (queue_of graph c.args.process) c.args.at 0 c.requires.at)

-- the course has a time for each item
pub send_item-requires-clause-times : goal.send_item-requires-clause-times
send_item-requires-clause-times c =
    let few : c.loop-faults.faults < c.args.setting.now.problem.now.faults + 1 =
    omega (arith, c.loop-faults-test.true, c.requires.lane.count, ap length c.self.view_is) in
    let sent = subst (HasSentTo c.args.setting.now c.args.frozen.now c.args.process
    (c.args.at + 1) c.args.at c.args.asked.now.scenario.now.values c.loop-faults.faults)
    (sym c.index_mut-course.ensures.value)
    (c.loop-faults.invariant.left c.loop-faults.faults c.index_mut-course.result.now (omega arith) few) in
    sent.places.times

-- the course has free slots for each node
pub send_item-requires-clause-free : goal.send_item-requires-clause-free
send_item-requires-clause-free c =
    let few : c.loop-faults.faults < c.args.setting.now.problem.now.faults + 1 =
    omega (arith, c.loop-faults-test.true, c.requires.lane.count, ap length c.self.view_is) in
    let sent = subst (HasSentTo c.args.setting.now c.args.frozen.now c.args.process
    (c.args.at + 1) c.args.at c.args.asked.now.scenario.now.values c.loop-faults.faults)
    (sym c.index_mut-course.ensures.value)
    (c.loop-faults.invariant.left c.loop-faults.faults c.index_mut-course.result.now (omega arith) few) in
    sent.places.free_count

-- the end of the process in this course is a latest end, and so below 2 ^ 59
pub send_item-requires-clause-early : goal.send_item-requires-clause-early
send_item-requires-clause-early c =
    let graph = c.args.setting.now.problem.now in
    let order = c.args.setting.now.order.now in
    let process = c.args.process in
    let values = c.args.asked.now.scenario.now.values in
    -- the course at hand is one of the lane, and the item is the one at the place
    let few : c.loop-faults.faults < graph.faults + 1 =
    omega (arith, c.loop-faults-test.true, c.requires.lane.count, ap length c.self.view_is) in
    let here : get_or c.queue.result.now c.args.at 0 ≡ queued graph process c.args.at =
    ap (λ xs. get_or xs c.args.at 0) c.queue.ensures in
    -- what is known in the course before the send
    let so_far =
    subst (HasSentTo c.args.setting.now c.args.frozen.now process (c.args.at + 1) c.args.at values c.loop-faults.faults)
    (sym c.index_mut-course.ensures.value)
    (c.loop-faults.invariant.left c.loop-faults.faults c.index_mut-course.result.now (omega arith) few) in
    let sent = c.is_sent.ensures.sent c.if-not-is_sent.false in
    -- so the end of the process in it is small
    (item_small graph order c.requires.setting.topological c.args.frozen.now values process c.requires.process
    (on_graph graph c.requires.setting.admitted.1.limits process c.requires.process) c.args.at c.requires.at
    c.loop-faults.faults few
    c.index_mut-course.result.now so_far sent.0
    (subst (λ y. item_active graph values (item_at graph y) ≡ true) here sent.1)
    c.requires.setting.admitted.1.limits c.requires.asked.long c.requires.early).0

-- the time of the send in this course is a latest time, and so below 2 ^ 59
pub send_item-requires-clause-time : goal.send_item-requires-clause-time
send_item-requires-clause-time c =
    let graph = c.args.setting.now.problem.now in
    let order = c.args.setting.now.order.now in
    let process = c.args.process in
    let values = c.args.asked.now.scenario.now.values in
    -- the course at hand is one of the lane, and the item is the one at the place
    let few : c.loop-faults.faults < graph.faults + 1 =
    omega (arith, c.loop-faults-test.true, c.requires.lane.count, ap length c.self.view_is) in
    let here : get_or c.queue.result.now c.args.at 0 ≡ queued graph process c.args.at =
    ap (λ xs. get_or xs c.args.at 0) c.queue.ensures in
    -- what is known in the course before the send
    let so_far =
    subst (HasSentTo c.args.setting.now c.args.frozen.now process (c.args.at + 1) c.args.at values c.loop-faults.faults)
    (sym c.index_mut-course.ensures.value)
    (c.loop-faults.invariant.left c.loop-faults.faults c.index_mut-course.result.now (omega arith) few) in
    let sent = c.is_sent.ensures.sent c.if-not-is_sent.false in
    -- so the time of the send in it is small
    subst (λ y. send_at graph c.args.frozen.now process y c.index_mut-course.result.now < 2 ^ 59) (sym here)
    (item_small graph order c.requires.setting.topological c.args.frozen.now values process c.requires.process
    (on_graph graph c.requires.setting.admitted.1.limits process c.requires.process) c.args.at c.requires.at
    c.loop-faults.faults few
    c.index_mut-course.result.now so_far sent.0
    (subst (λ y. item_active graph values (item_at graph y) ≡ true) here sent.1)
    c.requires.setting.admitted.1.limits c.requires.asked.long c.requires.early).1

-- the item is sent in one course more, and the other courses stay
pub loop-faults-preserved : goal.loop-faults-preserved
loop-faults-preserved c =
    let graph = c.args.setting.now.problem.now in
    let order = c.args.setting.now.order.now in
    let process = c.args.process in
    let values = c.args.asked.now.scenario.now.values in
    -- the course at hand is one of the lane, and the item is the one at the place
    let few : c.loop-faults.faults < graph.faults + 1 =
    omega (arith, c.loop-faults-test.true, c.requires.lane.count, ap length c.self.view_is) in
    let here : get_or c.queue.result.now c.args.at 0 ≡ queued graph process c.args.at =
    ap (λ xs. get_or xs c.args.at 0) c.queue.ensures in
    let course = c.index_mut-course.result.now in
    -- what is known in the course before the send
    let so_far =
    subst (HasSentTo c.args.setting.now c.args.frozen.now process (c.args.at + 1) c.args.at values c.loop-faults.faults)
    (sym c.index_mut-course.ensures.value)
    (c.loop-faults.invariant.left c.loop-faults.faults course (omega arith) few) in
    let sent = c.is_sent.ensures.sent c.if-not-is_sent.false in
    -- the courses up to this one have sent the item, the others have not
    half_more (HasSentTo c.args.setting.now c.args.frozen.now process (c.args.at + 1) c.args.at values)
    (HasSentTo c.args.setting.now c.args.frozen.now process (c.args.at + 1) (c.args.at + 1) values)
    (graph.faults + 1) c.loop-faults.faults c.loop-faults.self-inside.courses.items _ c.send_item.new.course
    c.loop-faults.invariant few
    (subst
    (HasSentTo c.args.setting.now c.args.frozen.now process (c.args.at + 1) (c.args.at + 1) values c.loop-faults.faults)
    (sym (c.send_item.ensures ∙ ap (λ y. course_sent graph c.args.frozen.now process y course) here))
    (item_sent graph order c.requires.setting.topological c.args.frozen.now values process c.requires.process
    (on_graph graph c.requires.setting.admitted.1.limits process c.requires.process) c.args.at c.requires.at
    c.loop-faults.faults few
    course so_far sent.0 (subst (λ y. item_active graph values (item_at graph y) ≡ true) here sent.1))) refl

-- after the loop the item is sent in the courses of all numbers of faults
pub returns : goal.returns
returns c = record {
  count = c.loop-faults.invariant.count_is;
  each = half_all (HasSentTo c.args.setting.now c.args.frozen.now c.args.process
      (c.args.at + 1) c.args.at c.args.asked.now.scenario.now.values)
      (HasSentTo c.args.setting.now c.args.frozen.now c.args.process (c.args.at + 1)
      (c.args.at + 1) c.args.asked.now.scenario.now.values)
      (c.args.setting.now.problem.now.faults + 1) c.loop-faults.faults c.loop-faults.self-inside.courses.items
      c.loop-faults.invariant
      (omega (
        arith,
        c.loop-faults-test.false,
        c.loop-faults.auto.faults-end,
        c.requires.lane.count,
        ap length c.self.view_is,
      ));
}
