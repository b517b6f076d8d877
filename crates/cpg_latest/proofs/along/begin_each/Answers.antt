-- Proof of `begin_each`: starts a process in each course of each track in which it is active, and otherwise lets its
-- node wait for what decides it.
use Rattle.std.proofs.Common.{◌≡◌, ◌∙◌, Bool, List, length, get_or, refl, sym, ap, subst, arith}
use Rattle.std.proofs.lemmas.List.{length-map}
use Rattle.cpg_latest.specs.Course.{IsAsked, IsLane, outcomes_asked}
use Rattle.cpg_latest.specs.Lanes.{CanBegin, HasSentTo}
use Rattle.cpg_latest.specs.Tracks.{track_at}
use Rattle.cpg_latest.specs.declared.asking.Asked.{Asked}
use Rattle.cpg_latest.proofs.AskedTracks.{outcome_asked}
use Rattle.cpg_latest.proofs.Halves.{half_more}
use Rattle.cpg_latest.proofs.LaneSteps.{LaneHas, lanes_start, lanes_end}
use Rattle.cpg_latest.proofs.along.begin_each.Goals as goal

-- at first the process can begin in each lane, and has begun in none
pub loop-i-init : goal.loop-i-init
loop-i-init c =
    lanes_start c.args.setting.now.problem.now (CanBegin c.args.setting.now c.args.frozen.now c.args.process)
    (HasSentTo c.args.setting.now c.args.frozen.now c.args.process 0 0)
    (outcomes_asked c.args.asked.now) (length c.args.asked.now)
    (length-map c.args.asked.now (λ (a : Asked). a.scenario.now.values)) c.args.lanes.now.items c.requires.lanes

-- what is handed to the i-th lane is one of those that were asked, each of which is what an outcome says
pub begin-requires-clause-asked : goal.begin-requires-clause-asked
begin-requires-clause-asked c =
    subst (IsAsked c.args.setting.now.problem.now c.args.setting.now.guards.now c.args.process) (sym c.index-asked-i.is)
    (c.requires.asked c.loop-i.i c.index-asked-i.result c.loop-i-test.true)

-- the lane at this place is that of the track that was asked there
pub begin-requires-clause-lane : goal.begin-requires-clause-lane
begin-requires-clause-lane c =
    let graph = c.args.setting.now.problem.now in
    let asked = c.args.asked.now in
    let track = c.index-asked-i.result in
    let values : track_at (outcomes_asked asked) c.loop-i.i ≡ track.scenario.now.values =
    outcome_asked asked c.loop-i.i track c.loop-i-test.true ∙
    ap (λ (b : Asked). b.scenario.now.values) (sym c.index-asked-i.is) in
    subst (IsLane graph ((CanBegin c.args.setting.now c.args.frozen.now c.args.process) track.scenario.now.values))
    (sym c.index_mut.ensures.value)
    (subst (λ (v : List Bool). IsLane graph ((CanBegin c.args.setting.now c.args.frozen.now c.args.process) v)
    (get_or c.loop-i.lanes.items c.loop-i.i c.index_mut.result.now)) values
    (c.loop-i.invariant.left c.loop-i.i c.index_mut.result.now (omega arith) c.loop-i-test.true))

-- there is a lane for each track
pub index_mut-requires : goal.index_mut-requires
index_mut-requires c = omega (arith, c.loop-i-test.true, c.loop-i.invariant.count_is)

-- the process has begun in one lane more, and the other lanes stay
pub loop-i-preserved : goal.loop-i-preserved
loop-i-preserved c =
    let graph = c.args.setting.now.problem.now in
    let asked = c.args.asked.now in
    let track = c.index-asked-i.result in
    let values : track_at (outcomes_asked asked) c.loop-i.i ≡ track.scenario.now.values =
    outcome_asked asked c.loop-i.i track c.loop-i-test.true ∙
    ap (λ (b : Asked). b.scenario.now.values) (sym c.index-asked-i.is) in
    half_more (LaneHas graph (CanBegin c.args.setting.now c.args.frozen.now c.args.process) (outcomes_asked asked))
    (LaneHas graph (HasSentTo c.args.setting.now c.args.frozen.now c.args.process 0 0) (outcomes_asked asked))
    (length asked) c.loop-i.i c.loop-i.lanes.items _ c.begin.new.self c.loop-i.invariant c.loop-i-test.true
    (subst (λ (v : List Bool). IsLane graph ((HasSentTo c.args.setting.now c.args.frozen.now c.args.process 0 0) v)
    c.begin.new.self) (sym values) c.begin.ensures) refl

-- after the loop the process has begun in the lanes of all tracks
pub returns : goal.returns
returns c = lanes_end c.args.setting.now.problem.now (CanBegin c.args.setting.now c.args.frozen.now c.args.process)
    (HasSentTo c.args.setting.now c.args.frozen.now c.args.process 0 0)
    (outcomes_asked c.args.asked.now) (length c.args.asked.now)
    (length-map c.args.asked.now (λ (a : Asked). a.scenario.now.values)) c.loop-i.i c.loop-i.lanes.items
    c.loop-i.invariant (omega (arith, c.loop-i-test.false, c.loop-i.auto.i-end))
