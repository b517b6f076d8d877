-- Proof of `ready_time`: returns when an active process is ready; `None` exactly if it is placed already, or the
-- source of a live input isn't.
use Rattle.std.proofs.Common.{◌≡◌, ◌<◌, ◌∙◌, ◌∷◌, true≢false, None, Contains, filter, map, get_or, length, max, sym, ap}
use Rattle.std.proofs.Common.{subst, arith}
use Rattle.std.proofs.lemmas.List.{take_all}
use Rattle.std.proofs.lemmas.List.Elements.{Contains-get_or}
use Rattle.cpg_base.specs.Graph.{edge_count, inputs, source, process_at}
use Rattle.cpg_base.specs.Numbers.{greatest}
use Rattle.cpg_base.specs.Activity.{live}
use Rattle.cpg_base.proofs.Inputs.{inputs_parts}
use Rattle.cpg_tracks.specs.Tracks.{input_ready}
use Rattle.cpg_tracks.specs.Timing.{outcome_of}
use Rattle.cpg_tracks.proofs.GreedySteps.{live_at, live_long, input_missing, input_given, ready_takes, ready_skips}
use Rattle.cpg_tracks.proofs.GreedySteps.{fed_takes, fed_skips, not_fed}
use Rattle.cpg_tracks.proofs.schedule.ready_time.Goals as goal
use Rattle.cpg_tracks.proofs.schedule.ready_time.Goals.{then-index+in-Some, else-index}

-- an input of the process is an edge of the graph, and each of these has a mark
pub index-requires : goal.index-requires
index-requires c =
    let graph = c.args.problem.now in
    let edge = get_or c.inputs-edge-items.result.now c.loop-edge.edge-index 0 in
    let same = c.inputs-edge-items.ensures.of_graph graph c.requires.timing.links in
    omega (
      arith,
      (inputs_parts graph c.args.process edge (subst (λ edges. Contains edges edge) same
          (Contains-get_or c.inputs-edge-items.result.now c.loop-edge.edge-index 0 c.loop-edge-test.true))).0,
      live_long graph c.args.timing.now c.requires.timing,
    )

-- an input of the process is an edge of the graph
pub input_time-requires-clause-edge : goal.input_time-requires-clause-edge
input_time-requires-clause-edge c =
    let graph = c.args.problem.now in
    let edge = get_or c.inputs-edge-items.result.now c.loop-edge.edge-index 0 in
    let same = c.inputs-edge-items.ensures.of_graph graph c.requires.timing.links in
    (inputs_parts graph c.args.process edge (subst (λ edges. Contains edges edge) same
    (Contains-get_or c.inputs-edge-items.result.now c.loop-edge.edge-index 0 c.loop-edge-test.true))).0

-- a live input isn't there, so the process can't be placed
pub returns-in_default-clause-none : goal.returns-in_default-clause-none
returns-in_default-clause-none c =
    let graph = c.args.problem.now in
    let outcome = outcome_of c.args.timing.now in
    let edges = c.inputs-edge-items.result.now in
    let edge = get_or edges c.loop-edge.edge-index 0 in
    let same = c.inputs-edge-items.ensures.of_graph graph c.requires.timing.links in
    -- the input is an edge of the graph
    let inside : edge < edge_count graph = (inputs_parts graph c.args.process edge
    (subst (λ ys. Contains ys edge) same (Contains-get_or edges c.loop-edge.edge-index 0 c.loop-edge-test.true))).0 in
    not_fed graph outcome c.args.starts.now c.args.process c.loop-edge.edge-index edge 0
    (omega (arith, ap length same, c.loop-edge-test.true))
    (ap (λ ys. get_or ys c.loop-edge.edge-index 0) (sym same))
    (sym (c.index.ensures ∙ live_at graph c.args.timing.now c.requires.timing edge c.index.result.now inside)
    ∙ c.if-index.true)
    (input_missing (λ _. input_ready graph c.args.starts.now edge) (get_or c.args.starts.now (source graph edge) None)
    (sym c.input_time.ensures ∙ c.in_default.is))

-- a live input is one more that the process waits for, and any other input is passed over
pub loop-edge-preserved : goal.loop-edge-preserved
loop-edge-preserved c =
    let graph = c.args.problem.now in
    let outcome = outcome_of c.args.timing.now in
    let edges = c.inputs-edge-items.result.now in
    let edge = get_or edges c.loop-edge.edge-index 0 in
    -- the edge at hand is one of the inputs, and one of the graph
    let same = c.inputs-edge-items.ensures.of_graph graph c.requires.timing.links in
    let inside : edge < edge_count graph = (inputs_parts graph c.args.process edge
    (subst (λ ys. Contains ys edge) same (Contains-get_or edges c.loop-edge.edge-index 0 c.loop-edge-test.true))).0 in
    let short : c.loop-edge.edge-index < length (inputs graph c.args.process) =
    omega (arith, ap length same, c.loop-edge-test.true) in
    let at : get_or (inputs graph c.args.process) c.loop-edge.edge-index 0 ≡ edge =
    ap (λ ys. get_or ys c.loop-edge.edge-index 0) (sym same) in
    let is : c.index.result.now ≡ live graph outcome edge =
    c.index.ensures ∙ live_at graph c.args.timing.now c.requires.timing edge c.index.result.now inside in
    elim c.if-index.branch [
      -- the input is live, and its source is placed: the process is ready no sooner than it is there
      | then-index+in-Some w ↦
          let there = input_given (input_ready graph c.args.starts.now edge)
          (get_or c.args.starts.now (source graph edge) None) w.in-Some.time
          (sym w.input_time.ensures ∙ w.in-Some.is) in
          record {
            ready = w.ready-is ∙ w.max-ready.ensures ∙ ap (λ n. max c.loop-edge.ready n) there.1
                ∙ ready_takes graph outcome c.args.starts.now c.args.process c.loop-edge.edge-index edge 0 short at
                (sym is ∙ w.if-index.true) c.loop-edge.ready c.loop-edge.invariant.ready;
            fed = fed_takes graph outcome c.args.starts.now c.args.process c.loop-edge.edge-index edge 0 short at
                (sym is ∙ w.if-index.true) there.0 c.loop-edge.invariant.fed;
          }
      -- the input isn't live: it is passed over
      | else-index w ↦ record {
        ready = w.ready-is ∙ ready_skips graph outcome c.args.starts.now c.args.process c.loop-edge.edge-index edge 0
            short at
            (sym is ∙ w.if-index.false) c.loop-edge.ready c.loop-edge.invariant.ready;
        fed = fed_skips graph outcome c.args.starts.now c.args.process c.loop-edge.edge-index edge 0 short at
            (sym is ∙ w.if-index.false) c.loop-edge.invariant.fed;
      }
    ]

-- the process is placed, so it isn't one that can be placed
pub returns-then-is_some-clause-none : goal.returns-then-is_some-clause-none
returns-then-is_some-clause-none c fed = true≢false (sym c.if-is_some.true ∙ c.is_some.ensures ∙ fed.unplaced)

-- all live inputs are there, so the process can be placed
pub returns-clause-fed : goal.returns-clause-fed
returns-clause-fed c =
    let graph = c.args.problem.now in
    -- the loop has visited all inputs
    let done = take_all c.loop-edge.edge-index (inputs graph c.args.process) (omega
    (arith, ap length (c.inputs-edge-items.ensures.of_graph graph c.requires.timing.links), c.loop-edge-test.false)) in
    record {
      within = c.requires.process;
      active = c.requires.active;
      unplaced = sym c.is_some.ensures ∙ c.if-is_some.false;
      inputs = λ edge is_input. c.loop-edge.invariant.fed edge
          (subst (λ es. Contains (filter (live graph (outcome_of c.args.timing.now)) es) edge) (sym done) is_input);
    }

-- all live inputs are counted, so this is when the process is ready
pub returns-clause-ready : goal.returns-clause-ready
returns-clause-ready c =
    let graph = c.args.problem.now in
    let done = take_all c.loop-edge.edge-index (inputs graph c.args.process) (omega
    (arith, ap length (c.inputs-edge-items.ensures.of_graph graph c.requires.timing.links), c.loop-edge-test.false)) in
    c.loop-edge.invariant.ready ∙ ap (λ es. greatest ((process_at graph c.args.process).release
    ∷ map (input_ready graph c.args.starts.now) (filter (live graph (outcome_of c.args.timing.now)) es))) done
