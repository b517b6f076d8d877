-- Proof of `latest_send`: the latest time over all tracks at which a process could send an item if that were not
-- frozen, and `None` exactly if the item is active in none.
use Rattle.std.proofs.Common.{◌≡◌, ◌∙◌, ◌<◌, List, [], length, inl, inr, sym, ap, subst, arith}
use Rattle.std.proofs.lemmas.Bool.{cases_Bool, true≢false}
use Rattle.std.proofs.lemmas.List.{get_or_default, length-map}
use Rattle.cpg_base.specs.Activity.{active, item_active}
use Rattle.cpg_base.specs.Graph.{item_at}
use Rattle.cpg_run.specs.Progress.{ProgressState}
use Rattle.cpg_latest.specs.Course.{IsAsked, outcomes_asked}
use Rattle.cpg_latest.specs.Lanes.{last_course, unfrozen_send}
use Rattle.cpg_latest.specs.Over.{AreSent, IsLatestSend, TellsSend, lane_at}
use Rattle.cpg_latest.specs.Tracks.{track_at}
use Rattle.cpg_latest.specs.declared.asking.Asked.{Asked}
use Rattle.cpg_latest.proofs.AskedTracks.{outcome_asked}
use Rattle.cpg_latest.proofs.OverAll.{over_more, over_none}
use Rattle.cpg_latest.proofs.along.latest_send.Goals as goal

-- over no tracks the latest time is None
pub loop-i-init : goal.loop-i-init
loop-i-init c = over_none (λ i.
    AreSent c.args.setting.now.problem.now (track_at (outcomes_asked c.args.asked.now) i) c.args.process c.args.item)
    (λ i time. time ≡ unfrozen_send c.args.setting.now.problem.now c.args.process
    (last_course c.args.setting.now.problem.now (lane_at c.args.lanes.now i)))

-- there are as many tracks that were asked as lanes
pub bounds-asked-i : goal.bounds-asked-i
bounds-asked-i c = omega (
  arith,
  c.loop-i-test.true,
  c.requires.lanes.count,
  length-map c.args.asked.now (λ (a : Asked). a.scenario.now.values),
)

-- what was asked at this place is one of the answers, each of which is what an outcome says
pub send_time-time-requires-clause-asked : goal.send_time-time-requires-clause-asked
send_time-time-requires-clause-asked c =
    subst (IsAsked c.args.setting.now.problem.now c.args.setting.now.guards.now c.args.process) (sym c.index-asked-i.is)
    (c.requires.asked c.loop-i.i c.index-asked-i.result (omega (
      arith,
      c.loop-i-test.true,
      c.requires.lanes.count,
      length-map c.args.asked.now (λ (a : Asked). a.scenario.now.values),
    )))

-- the lane of this track has a course for each number of faults
pub send_time-time-requires-clause-count : goal.send_time-time-requires-clause-count
send_time-time-requires-clause-count c =
    let tells = subst (TellsSend c.args.setting.now.problem.now
    (track_at (outcomes_asked c.args.asked.now) c.loop-i.i) c.args.process) (sym c.index-lanes-i.is)
    (c.requires.lanes.each c.loop-i.i c.index-lanes-i.result
    (omega (arith, c.loop-i-test.true, c.requires.lanes.count))) in
    tells.count

-- the last course of this lane says for each node when its slots are free
pub send_time-time-requires-clause-free : goal.send_time-time-requires-clause-free
send_time-time-requires-clause-free c =
    let tells = subst (TellsSend c.args.setting.now.problem.now
    (track_at (outcomes_asked c.args.asked.now) c.loop-i.i) c.args.process) (sym c.index-lanes-i.is)
    (c.requires.lanes.each c.loop-i.i c.index-lanes-i.result
    (omega (arith, c.loop-i-test.true, c.requires.lanes.count))) in
    tells.free

-- if the process is active, its end in the last course of this lane is below 2 ^ 59, as the lanes tell
pub send_time-time-requires-clause-early : goal.send_time-time-requires-clause-early
send_time-time-requires-clause-early c on =
    let asked = c.args.asked.now in
    let track = c.index-asked-i.result in
    let inside : c.loop-i.i < length asked = omega
    (arith, c.loop-i-test.true, c.requires.lanes.count, length-map asked (λ (a : Asked). a.scenario.now.values)) in
    let values : track_at (outcomes_asked asked) c.loop-i.i ≡ track.scenario.now.values =
    outcome_asked asked c.loop-i.i track inside ∙ ap (λ (b : Asked). b.scenario.now.values) (sym c.index-asked-i.is) in
    let tells = subst (TellsSend c.args.setting.now.problem.now
    (track_at (outcomes_asked asked) c.loop-i.i) c.args.process)
    (sym c.index-lanes-i.is)
    (c.requires.lanes.each c.loop-i.i c.index-lanes-i.result
    (omega (arith, c.loop-i-test.true, c.requires.lanes.count))) in
    tells.early (ap (λ v. active c.args.setting.now.problem.now v c.args.process) values ∙ on)

-- with this track the latest time is that over one track more: its time counts if the item is sent in it
pub loop-i-preserved : goal.loop-i-preserved
loop-i-preserved c =
    let graph = c.args.setting.now.problem.now in
    let asked = c.args.asked.now in
    let track = c.index-asked-i.result in
    -- the track at hand has the values that are asked, and its lane is the one that is read
    let inside : c.loop-i.i < length asked = omega
    (arith, c.loop-i-test.true, c.requires.lanes.count, length-map asked (λ (a : Asked). a.scenario.now.values)) in
    let values : track_at (outcomes_asked asked) c.loop-i.i ≡ track.scenario.now.values =
    outcome_asked asked c.loop-i.i track inside ∙ ap (λ (b : Asked). b.scenario.now.values) (sym c.index-asked-i.is) in
    let lane : c.index-lanes-i.result ≡ lane_at c.args.lanes.now c.loop-i.i =
    c.index-lanes-i.is ∙ get_or_default c.args.lanes.now c.loop-i.i c.index-lanes-i.result [] c.loop-i-test.true in
    let acts_same = ap (λ v. active graph v c.args.process) values in
    let sent_same = ap (λ v. item_active graph v (item_at graph c.args.item)) values in
    -- one track more: either the item is sent in it, and its time counts, or it isn't
    over_more (λ i. AreSent graph (track_at (outcomes_asked asked) i) c.args.process c.args.item)
    (λ i time. time ≡ unfrozen_send graph c.args.process (last_course graph (lane_at c.args.lanes.now i)))
    c.loop-i.i c.loop-i.latest c.send_time-time.result c.later-latest.result c.loop-i.invariant c.later-latest.ensures
    (elim (cases_Bool (active graph track.scenario.now.values c.args.process)) [
      | inl on ↦ elim (cases_Bool (item_active graph track.scenario.now.values (item_at graph c.args.item))) [
        -- the process is active and the item is sent
        | inl sent ↦ inl (
          unfrozen_send graph c.args.process (last_course graph c.index-lanes-i.result),
          c.send_time-time.ensures.acts on sent,
          record { acts = acts_same ∙ on; sent = sent_same ∙ sent },
          ap (λ (ls : List ProgressState). unfrozen_send graph c.args.process (last_course graph ls)) lane,
        )
        -- the process is active, but not the item
        | inr unsent ↦
            inr (λ are. true≢false (sym are.sent ∙ sent_same ∙ unsent), c.send_time-time.ensures.idle (λ act. unsent))
      ]
      -- the process is not active
      | inr off ↦ inr (
        λ are. true≢false (sym are.acts ∙ acts_same ∙ off),
        c.send_time-time.ensures.idle (λ on. absurd (true≢false (sym on ∙ off))),
      )
    ])

-- the loop has ended, so the latest of the first i lanes is that of all lanes
pub returns : goal.returns
returns c = subst (λ n. IsLatestSend c.args.setting.now.problem.now
    (outcomes_asked c.args.asked.now) c.args.process c.args.item c.args.lanes.now n c.loop-i.latest)
    (omega (arith, c.loop-i-test.false, c.loop-i.auto.i-end)) c.loop-i.invariant
