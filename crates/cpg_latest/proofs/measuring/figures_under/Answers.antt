-- Proof of `figures_under`: the greatest excess and the greatest finish of all scenarios under an order, in time units,
-- given the outcomes of a graph's tracks.
use Rattle.std.proofs.Common.{◌≡◌, ◌∙◌, ℕ, List, [], Option, length, map, replicate, sym, ap, subst, arith}
use Rattle.std.proofs.lemmas.List.{length-map}
use Rattle.cpg_base.specs.Graph.{Graph, condition_count, process_count}
use Rattle.cpg_base.specs.Numbers.{greatest}
use Rattle.cpg_base.specs.Scenario.{Scenario}
use Rattle.cpg_base.proofs.Places.{length_order}
use Rattle.cpg_order.specs.Track.{AreTracks}
use Rattle.cpg_order.specs.Urgency.{IsTopological, IsUrgencyOrder}
use Rattle.cpg_run.specs.Frozen.{nothing_frozen}
use Rattle.cpg_run.specs.Progress.{ProgressState}
use Rattle.cpg_latest.specs.Course.{AreSettledOf, IsEarlier, outcomes_of}
use Rattle.cpg_latest.specs.Lanes.{AreLanesBefore, excess_of_course, finish_of, last_course, no_lane}
use Rattle.cpg_latest.specs.Laws.{HasFigures}
use Rattle.cpg_latest.proofs.AskedTracks.{outcome_at}
use Rattle.cpg_latest.proofs.Found.{figures_found, lanes_first, settled_none}
use Rattle.cpg_latest.proofs.OverAll.{long_track}
use Rattle.cpg_latest.proofs.measuring.figures_under.Goals as goal

-- before the first place no item is done, so no frozen time is set, and nothing is known in any course
pub loop-place-init : goal.loop-place-init
loop-place-init c =
    let graph = c.of-setting.result.problem.now in
    let order = c.of-setting.result.order.now in
    let same : c.problem-problem.result.now ≡ graph =
    c.problem-problem.ensures.problem ∙ sym c.of-setting.ensures.problem in
    record {
      settled = subst (AreSettledOf graph order (IsEarlier graph order 0))
          (sym (c.in_ok-frozen.ensures ∙ ap nothing_frozen same)) (settled_none graph order);
      known = lanes_first graph order (IsEarlier graph order 0) c.in_ok-frozen.frozen
          (outcomes_of c.args.tracks.now) c.in_ok-lanes.lanes.items (length c.args.tracks.now)
          (sym (length-map c.args.tracks.now (λ (s : Scenario). s.values)))
          (c.in_ok-lanes.ensures ∙ ap (λ (h : Graph). replicate (length c.args.tracks.now) (no_lane h)) same);
    }

-- there are as many places as processes
pub at-requires : goal.at-requires
at-requires c = omega (
  arith,
  c.loop-place-test.true,
  ap length c.processes.ensures.processes,
  ap process_count c.problem-problem.ensures.problem,
  length_order (process_count c.args.admitted.now.graph) c.args.order.now c.requires.topological.all,
)

-- the process at this place is one of the graph
pub step-requires-clause-process : goal.step-requires-clause-process
step-requires-clause-process c = omega (
  arith,
  c.at.ensures.within,
  ap process_count c.of-setting.ensures.problem,
  length_order (process_count c.args.admitted.now.graph) c.args.order.now c.requires.topological.all,
)

-- each track has a value for each condition
pub step-requires-clause-values : goal.step-requires-clause-values
step-requires-clause-values c i d l =
    let tracks = c.args.tracks.now in
    let admitted = c.problem-problem.ensures.admitted in
    let none : List (Option ℕ) = [] in
    ap length (sym (outcome_at tracks i d l))
    ∙ long_track c.args.admitted.now.graph c.args.admitted.now.order c.args.order.now none
    (outcomes_of tracks) admitted.urgency admitted.topological c.requires.topological c.requires.tracks i
    (omega (arith, l, length-map tracks (λ (s : Scenario). s.values)))
    ∙ ap condition_count (sym c.of-setting.ensures.problem)

-- after the last place all is known, so the greatest excess and finish of the last courses are those of the order
pub returns : goal.returns
returns c =
    let setting = c.of-setting.result in
    let graph = setting.problem.now in
    let order = setting.order.now in
    let lanes = c.loop-place.lanes.items in
    let admitted = c.problem-problem.ensures.admitted in
    -- the setting has the graph and the order that were given
    let here : c.args.admitted.now.graph ≡ graph = sym c.of-setting.ensures.problem in
    let same : c.problem-problem.result.now ≡ graph = c.problem-problem.ensures.problem ∙ here in
    let ordered : c.args.order.now ≡ order = sym c.of-setting.ensures.order in
    -- the place is behind the last process
    let last : c.loop-place.place ≡ process_count graph = omega (
      arith,
      ap length c.processes.ensures.processes,
      ap process_count same,
      c.loop-place-test.false,
      c.loop-place.auto.place-end,
    ) in
    let known = subst (λ n. AreLanesBefore setting (outcomes_of c.args.tracks.now) n c.loop-place.frozen lanes) last
    c.loop-place.invariant in
    -- what was required of the order holds in the setting's terms
    let topological = subst (IsTopological graph) ordered
    (subst (λ (h : Graph). IsTopological h c.args.order.now) here c.requires.topological) in
    -- the figures that were found are those of the last courses
    let excess = subst (λ (h : Graph).
    c.greatest_figures.result.excess ≡ greatest (map (λ l. excess_of_course h (last_course h l)) lanes)) same
    (c.greatest_figures.ensures.excess ∙ ap (λ (ls : List (List ProgressState)). greatest
    (map (λ l. excess_of_course c.problem-problem.result.now (last_course c.problem-problem.result.now l)) ls))
    c.as_slice.ensures.value) in
    let worst = subst (λ (h : Graph).
    c.greatest_figures.result.worst ≡ greatest (map (λ l. finish_of h (last_course h l)) lanes)) same
    (c.greatest_figures.ensures.worst ∙ ap (λ (ls : List (List ProgressState)).
    greatest (map (λ l. finish_of c.problem-problem.result.now (last_course c.problem-problem.result.now l)) ls))
    c.as_slice.ensures.value) in
    -- so they are the figures of the setting's order
    let found = figures_found graph c.args.admitted.now.order order c.loop-place.frozen (outcomes_of c.args.tracks.now)
    (subst (λ (h : Graph). IsUrgencyOrder h c.args.admitted.now.order) here admitted.urgency)
    (subst (λ (h : Graph). IsTopological h c.args.admitted.now.order) here admitted.topological) topological
    (subst (λ (h : Graph). AreTracks h (outcomes_of c.args.tracks.now)) here c.requires.tracks) lanes
    known.settled known.known
    c.greatest_figures.result.excess c.greatest_figures.result.worst excess worst in
    -- and of the order that was given
    subst (λ (h : Graph).
    HasFigures h c.args.order.now c.greatest_figures.result.excess c.greatest_figures.result.worst) (sym here)
    (subst (λ o. HasFigures graph o c.greatest_figures.result.excess c.greatest_figures.result.worst)
    (sym ordered) found)
