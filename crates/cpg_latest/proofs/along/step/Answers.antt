-- Proof of `step`: finds the latest times of the start and the end of a process and of all that it sends in each track,
-- and the frozen times of those that are frozen.
use Rattle.std.proofs.Common.{◌∙◌, length, sym, ap, subst}
use Rattle.cpg_base.specs.Order.{place}
use Rattle.cpg_bus.specs.Plan.{queue_of}
use Rattle.cpg_latest.specs.Course.{AreAsked, AreLanes, IsDone, outcomes_asked, outcomes_of}
use Rattle.cpg_latest.specs.Lanes.{AreLanesBefore, AreSending, CanBegin, HasSentTo}
use Rattle.cpg_latest.proofs.Found.{on_graph}
use Rattle.cpg_order.specs.Track.{AreTracks}
use Rattle.cpg_latest.proofs.NextStep.{can_begin, next_known}
use Rattle.cpg_latest.proofs.Settling.{early_of}
use Rattle.cpg_latest.proofs.along.step.Goals as goal

-- the outcomes that were asked are those of the tracks, and these are all tracks
pub settle_start-requires-clause-tracks : goal.settle_start-requires-clause-tracks
settle_start-requires-clause-tracks c =
    subst (AreTracks c.args.setting.now.problem.now)
    (sym (ap outcomes_asked c.as_slice.ensures.value ∙ c.in_ok-asked.ensures.outcomes)) c.requires.tracks

-- each answer is what a track says of the process, as `ask_each` ensures, and the slice has these answers
pub settle_start-requires-clause-asked : goal.settle_start-requires-clause-asked
settle_start-requires-clause-asked c =
    subst (AreAsked c.args.setting.now.problem.now c.args.setting.now.guards.now c.args.process)
    (sym c.as_slice.ensures.value) c.in_ok-asked.ensures.asked

-- what is known before the place of the process is known of the tracks that were asked
pub settle_start-requires-clause-known : goal.settle_start-requires-clause-known
settle_start-requires-clause-known c =
    subst (λ ts. AreLanesBefore c.args.setting.now ts
    (place c.args.setting.now.order.now c.args.process) c.args.frozen.now c.as_slice-2.result.now)
    (sym (ap outcomes_asked c.as_slice.ensures.value ∙ c.in_ok-asked.ensures.outcomes))
    (subst (AreLanesBefore c.args.setting.now (outcomes_of c.args.tracks.now)
    (place c.args.setting.now.order.now c.args.process) c.args.frozen.now)
    (sym c.as_slice-2.ensures.value) c.requires.known)

-- the list of frozen times still has a place for each item
pub begin_each-requires-clause-frozen : goal.begin_each-requires-clause-frozen
begin_each-requires-clause-frozen c = c.settle_start.ensures.settled.count

-- settled frozen times are no later than their items could be, so they are below 2 ^ 58
pub begin_each-requires-clause-early : goal.begin_each-requires-clause-early
begin_each-requires-clause-early c =
    let graph = c.args.setting.now.problem.now in
    let order = c.args.setting.now.order.now in
    early_of graph order c.requires.setting.topological c.requires.setting.admitted.1.limits
    (IsDone graph order c.args.process 0) c.settle_start.new.frozen c.settle_start.ensures.settled

-- each answer is what a track says of the process, as `ask_each` ensures, and the slice has these answers
pub begin_each-requires-clause-asked : goal.begin_each-requires-clause-asked
begin_each-requires-clause-asked c =
    subst (AreAsked c.args.setting.now.problem.now c.args.setting.now.guards.now c.args.process)
    (sym c.as_slice-3.ensures.value) c.in_ok-asked.ensures.asked

-- the frozen time of the start is set, and nothing before it has changed, so the process can begin in each track
pub begin_each-requires-clause-lanes : goal.begin_each-requires-clause-lanes
begin_each-requires-clause-lanes c =
    subst (λ ts. AreLanes c.args.setting.now.problem.now
    (CanBegin c.args.setting.now c.settle_start.new.frozen c.args.process) ts c.args.lanes.now.items)
    (sym (ap outcomes_asked c.as_slice-3.ensures.value ∙ c.in_ok-asked.ensures.outcomes))
    (can_begin c.args.setting.now c.requires.setting.topological c.args.process c.requires.process
    (outcomes_of c.args.tracks.now) c.args.frozen.now c.settle_start.new.frozen c.args.lanes.now.items
    c.settle_start.ensures.others c.requires.known.known)

-- the outcomes that were asked are those of the tracks, and these are all tracks
pub send_all-requires-clause-tracks : goal.send_all-requires-clause-tracks
send_all-requires-clause-tracks c =
    subst (AreTracks c.args.setting.now.problem.now)
    (sym (ap outcomes_asked c.as_slice-4.ensures.value ∙ c.in_ok-asked.ensures.outcomes)) c.requires.tracks

-- each answer is what a track says of the process, as `ask_each` ensures, and the slice has these answers
pub send_all-requires-clause-asked : goal.send_all-requires-clause-asked
send_all-requires-clause-asked c =
    subst (AreAsked c.args.setting.now.problem.now c.args.setting.now.guards.now c.args.process)
    (sym c.as_slice-4.ensures.value) c.in_ok-asked.ensures.asked

-- the process has begun in each track, and the frozen times are settled with its start
pub send_all-requires-clause-sending : goal.send_all-requires-clause-sending
send_all-requires-clause-sending c = record {
  settled = c.settle_start.ensures.settled;
  known = subst (λ ts. AreLanes c.args.setting.now.problem.now
      (HasSentTo c.args.setting.now c.settle_start.new.frozen c.args.process 0 0) ts c.begin_each.new.lanes.items)
      (ap outcomes_asked (c.as_slice-3.ensures.value ∙ sym c.as_slice-4.ensures.value)) c.begin_each.ensures;
}

-- all that the process sends is sent in each track, so all is known before the next place (`next_known`)
pub returns : goal.returns
returns c =
    next_known c.args.setting.now c.requires.setting.topological c.args.process c.requires.process
    (outcomes_of c.args.tracks.now)
    (on_graph c.args.setting.now.problem.now c.requires.setting.admitted.1.limits c.args.process c.requires.process)
    c.requires.setting.admitted.1.limits c.send_all.new.frozen c.send_all.new.lanes.items
    (subst (λ ts. AreSending c.args.setting.now ts c.args.process (length
    (queue_of c.args.setting.now.problem.now c.args.process)) c.send_all.new.frozen c.send_all.new.lanes.items)
    (ap outcomes_asked c.as_slice-4.ensures.value ∙ c.in_ok-asked.ensures.outcomes) c.send_all.ensures)
