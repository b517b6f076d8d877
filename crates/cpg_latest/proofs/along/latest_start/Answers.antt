-- Proof of `latest_start`: the latest start of a process over all tracks as if it were not frozen, and `None` exactly
-- if it is active in none.
use Rattle.std.proofs.Common.{◌≡◌, ◌∙◌, ◌<◌, Bool, true, List, [], length, inl, inr, sym, ap, subst, arith}
use Rattle.std.proofs.lemmas.Bool.{cases_Bool, true≢false}
use Rattle.std.proofs.lemmas.List.{get_or_default, length-map}
use Rattle.cpg_base.specs.Activity.{active}
use Rattle.cpg_run.specs.Progress.{ProgressState}
use Rattle.cpg_latest.specs.Course.{IsAsked, outcomes_asked}
use Rattle.cpg_latest.specs.Lanes.{IsUnfrozenStart, last_course}
use Rattle.cpg_latest.specs.Over.{IsLatestStart, TellsStart, lane_at}
use Rattle.cpg_latest.specs.Tracks.{track_at}
use Rattle.cpg_latest.specs.declared.asking.Asked.{Asked}
use Rattle.cpg_latest.proofs.AskedTracks.{outcome_asked}
use Rattle.cpg_latest.proofs.OverAll.{over_more, over_none}
use Rattle.cpg_latest.proofs.along.latest_start.Goals as goal

-- over no tracks the latest start is None
pub loop-i-init : goal.loop-i-init
loop-i-init c = over_none
    (λ i. active c.args.setting.now.problem.now (track_at (outcomes_asked c.args.asked.now) i) c.args.process ≡ true)
    (λ i time.
    IsUnfrozenStart c.args.setting.now.problem.now (track_at (outcomes_asked c.args.asked.now) i) c.args.process
    (last_course c.args.setting.now.problem.now (lane_at c.args.lanes.now i)) time)

-- there are as many tracks that were asked as lanes
pub bounds-asked-i : goal.bounds-asked-i
bounds-asked-i c = omega (
  arith,
  c.loop-i-test.true,
  c.requires.lanes.count,
  length-map c.args.asked.now (λ (a : Asked). a.scenario.now.values),
)

-- what was asked at this place is one of the answers, each of which is what an outcome says
pub start-requires-clause-asked : goal.start-requires-clause-asked
start-requires-clause-asked c =
    subst (IsAsked c.args.setting.now.problem.now c.args.setting.now.guards.now c.args.process) (sym c.index-asked-i.is)
    (c.requires.asked c.loop-i.i c.index-asked-i.result (omega (
      arith,
      c.loop-i-test.true,
      c.requires.lanes.count,
      length-map c.args.asked.now (λ (a : Asked). a.scenario.now.values),
    )))

-- the lane of this track has a course for each number of faults
pub start-requires-clause-count : goal.start-requires-clause-count
start-requires-clause-count c = let tells = subst (TellsStart c.args.setting.now.problem.now) (sym c.index-lanes-i.is)
    (c.requires.lanes.each c.loop-i.i c.index-lanes-i.result
    (omega (arith, c.loop-i-test.true, c.requires.lanes.count))) in
    tells.count

-- the last course of this lane says when each node is ready
pub start-requires-clause-ready : goal.start-requires-clause-ready
start-requires-clause-ready c = let tells = subst (TellsStart c.args.setting.now.problem.now) (sym c.index-lanes-i.is)
    (c.requires.lanes.each c.loop-i.i c.index-lanes-i.result
    (omega (arith, c.loop-i-test.true, c.requires.lanes.count))) in
    tells.ready

-- the times in the last course of this lane are below 2 ^ 59, as the lanes tell
pub start-requires-clause-small : goal.start-requires-clause-small
start-requires-clause-small c = let tells = subst (TellsStart c.args.setting.now.problem.now) (sym c.index-lanes-i.is)
    (c.requires.lanes.each c.loop-i.i c.index-lanes-i.result
    (omega (arith, c.loop-i-test.true, c.requires.lanes.count))) in
    tells.small

-- with this track the latest start is that over one track more: its start counts if the process is active in it
pub loop-i-preserved : goal.loop-i-preserved
loop-i-preserved c =
    let graph = c.args.setting.now.problem.now in
    let asked = c.args.asked.now in
    let track = c.index-asked-i.result in
    -- the track at hand has the values that are asked, and its lane is the one that is read
    let inside : c.loop-i.i < length asked = omega
    (arith, c.loop-i-test.true, c.requires.lanes.count, length-map asked (λ (a : Asked). a.scenario.now.values)) in
    let is = c.requires.asked c.loop-i.i track inside in
    let one = subst (IsAsked graph c.args.setting.now.guards.now c.args.process) (sym c.index-asked-i.is) is in
    let values : track_at (outcomes_asked asked) c.loop-i.i ≡ track.scenario.now.values =
    outcome_asked asked c.loop-i.i track inside ∙ ap (λ (b : Asked). b.scenario.now.values) (sym c.index-asked-i.is) in
    let lane : c.index-lanes-i.result ≡ lane_at c.args.lanes.now c.loop-i.i =
    c.index-lanes-i.is ∙ get_or_default c.args.lanes.now c.loop-i.i c.index-lanes-i.result [] c.loop-i-test.true in
    -- one track more: either the process is active in it, and its start counts, or it isn't
    over_more (λ i. active graph (track_at (outcomes_asked asked) i) c.args.process ≡ true)
    (λ i time. IsUnfrozenStart graph (track_at (outcomes_asked asked) i) c.args.process
    (last_course graph (lane_at c.args.lanes.now i)) time)
    c.loop-i.i c.loop-i.latest c.start.result c.later-latest.result c.loop-i.invariant c.later-latest.ensures
    (elim (cases_Bool track.acts) [
      -- the process is active: its unfrozen start is the time of this track
      | inl on ↦
          let acts = c.start.ensures.acts on in
          inl (
            acts.0,
            acts.1,
            ap (λ v. active graph v c.args.process) values ∙ sym one.acts ∙ on,
            subst (λ (ls : List ProgressState). IsUnfrozenStart graph
                (track_at (outcomes_asked asked) c.loop-i.i) c.args.process (last_course graph ls) acts.0) lane
                (subst (λ (v : List Bool).
                IsUnfrozenStart graph v c.args.process (last_course graph c.index-lanes-i.result) acts.0)
                (sym values) acts.2),
          )
      -- the process is not active
      | inr off ↦ inr (
        λ on. true≢false (sym on ∙ ap (λ v. active graph v c.args.process) values ∙ sym one.acts ∙ off),
        c.start.ensures.idle off,
      )
    ])

-- the loop has ended, so the latest of the first i lanes is that of all lanes
pub returns : goal.returns
returns c = subst (λ n. IsLatestStart c.args.setting.now.problem.now
    (outcomes_asked c.args.asked.now) c.args.process c.args.lanes.now n c.loop-i.latest)
    (omega (arith, c.loop-i-test.false, c.loop-i.auto.i-end)) c.loop-i.invariant
