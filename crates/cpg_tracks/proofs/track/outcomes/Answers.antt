-- Proof of `outcomes`: returns the outcomes of the tracks, in order, and `None` exactly if there are more than 256.
use Rattle.std.proofs.Common.{◌<◌, ◌+◌, ◌∙◌, [], ◌∷◌, All, ap, sym, subst, get_or, length, arith}
use Rattle.std.proofs.lemmas.List.{take_all, length-map}
use Rattle.cpg_base.specs.Graph.{condition_of, process_count}
use Rattle.cpg_base.specs.Scenario.{Scenario}
use Rattle.cpg_order.specs.Counting.{conditions_along, all_false}
use Rattle.cpg_base.proofs.Standing.{process_within}
use Rattle.cpg_base.proofs.Places.{length_order}
use Rattle.cpg_order.specs.Track.{AreTracks}
use Rattle.cpg_tracks.specs.Track.{outcomes_of, HasValues}
use Rattle.cpg_tracks.specs.Walks.{tracks_over}
use Rattle.cpg_tracks.proofs.TracksFound.{walk_finds_tracks}
use Rattle.cpg_tracks.proofs.WalkSteps.{walk_takes, walk_skips, stopped_at, none_if}
use Rattle.cpg_tracks.proofs.track.outcomes.Goals as goal
use Rattle.cpg_tracks.proofs.track.outcomes.Goals.{in-Some+in_ok-scenarios+else-len-gt-MOST_SCHEDULED_TRACKS, in_default}

-- each number in the order is that of a process of the graph
pub condition_of-requires : goal.condition_of-requires
condition_of-requires c =
    let same = c.processes-process-items.ensures.processes in
    let within = process_within c.args.order.now c.processes-process-items.ensures.order c.loop-process.process-index
    (omega (arith, ap length same, c.loop-process-test.true)) in
    rw same (omega (arith, length_order (process_count c.args.problem.now) c.args.order.now c.requires.topological.all))

-- there are too many outcomes already, and the conditions that are left make no fewer
pub returns-then-len-gt-MOST_SCHEDULED_TRACKS-clause-many : goal.returns-then-len-gt-MOST_SCHEDULED_TRACKS-clause-many
returns-then-len-gt-MOST_SCHEDULED_TRACKS-clause-many c =
    let graph = c.args.problem.now in
    let order = c.args.order.now in
    let same = c.processes-process-items.ensures.processes in
    let at = ap (λ xs. condition_of graph (get_or xs c.loop-process.process-index 0)) same in
    -- the outcomes are those with the condition chosen too
    let walked = walk_takes graph order c.loop-process.process-index c.in-Some.condition c.loop-process.scenarios.items
    c.in_ok-scenarios.scenarios.items
    (omega (arith, ap length same, c.loop-process-test.true)) (sym at ∙ sym c.in-Some.ensures)
    c.loop-process.invariant.walked (rw c.as_slice.ensures.value at c.in_ok-scenarios.ensures.ways) in
    stopped_at graph order c.requires.urgency c.requires.topological (c.loop-process.process-index + 1)
    (omega (
      arith,
      c.if-len-gt-MOST_SCHEDULED_TRACKS.true,
      c.len.ensures,
      ap length walked,
      length-map c.in_ok-scenarios.scenarios.items (λ (s : Scenario). s.values),
    ))

-- the condition of one more process is chosen; a process without one leaves the outcomes as they are
pub loop-process-preserved : goal.loop-process-preserved
loop-process-preserved c =
    let graph = c.args.problem.now in
    let order = c.args.order.now in
    let same = c.processes-process-items.ensures.processes in
    let at = ap (λ xs. condition_of graph (get_or xs c.loop-process.process-index 0)) same in
    let inside : c.loop-process.process-index < length order =
    omega (arith, ap length same, c.loop-process-test.true) in
    elim c.match-condition_of.branch [
      -- the process has a condition: each outcome goes both ways if the process is active in it
      | in-Some+in_ok-scenarios+else-len-gt-MOST_SCHEDULED_TRACKS w ↦ let is = ap (λ v. v.items) w.scenarios-is in record {
        walked = ap outcomes_of is ∙ walk_takes graph order c.loop-process.process-index w.in-Some.condition
            c.loop-process.scenarios.items w.in_ok-scenarios.scenarios.items inside
            (sym at ∙ sym w.in-Some.ensures)
            c.loop-process.invariant.walked (rw w.as_slice.ensures.value at w.in_ok-scenarios.ensures.ways);
        values = subst (All (HasValues graph)) (sym is) w.in_ok-scenarios.ensures.values;
        few = omega (arith, ap length is, w.if-len-gt-MOST_SCHEDULED_TRACKS.false, w.len.ensures);
      }
      -- it has none: the outcomes stay
      | in_default w ↦ let is = ap (λ v. v.items) w.scenarios-is in record {
        walked =
            ap outcomes_of is ∙ walk_skips graph order c.loop-process.process-index c.loop-process.scenarios.items
            inside
            (sym at ∙ sym c.condition_of.ensures ∙ none_if c.condition_of.result w.in_default.not-Some)
            c.loop-process.invariant.walked;
        values = subst (All (HasValues graph)) (sym is) c.loop-process.invariant.values;
        few = omega (arith, ap length is, c.loop-process.invariant.few);
      }
    ]

-- all conditions have been visited, so the outcomes are the tracks
pub returns-clause-tracks : goal.returns-clause-tracks
returns-clause-tracks c =
    let graph = c.args.problem.now in
    let order = c.args.order.now in
    let done = take_all c.loop-process.process-index order
    (omega (arith, ap length c.processes-process-items.ensures.processes, c.loop-process-test.false)) in
    subst (AreTracks graph) (sym (c.loop-process.invariant.walked
    ∙ ap (λ xs. tracks_over graph (conditions_along graph xs) (all_false graph ∷ [])) done))
    (walk_finds_tracks graph order c.requires.urgency c.requires.topological)
