-- Proof of `feed_targets`: adds the processes that waited for this placed process and can be placed now.
use Rattle.std.proofs.Common.{◌≡◌, ◌+◌, ◌<◌, ◌++◌, ◌∷◌, [], ◌∙◌, Contains, get_or, length, take, sym, ap, subst, arith}
use Rattle.std.proofs.lemmas.List.{take_more, take_all}
use Rattle.std.proofs.lemmas.List.Elements.{Contains-get_or}
use Rattle.cpg_base.specs.Graph.{edge_count, outputs}
use Rattle.cpg_base.proofs.Inputs.{outputs_parts}
use Rattle.cpg_tracks.specs.Timing.{outcome_of, Feeds}
use Rattle.cpg_tracks.proofs.GreedySteps.{live_at, live_long}
use Rattle.cpg_tracks.proofs.Feeding.{processes_of, AreTargetsFed, target_asked, target_passed, all_targets_asked}
use Rattle.cpg_tracks.proofs.schedule.feed_targets.Goals as goal
use Rattle.cpg_tracks.proofs.schedule.feed_targets.Goals.{then-index+in_ok-feed, else-index}

-- an output of the process is an edge of the graph, and each of these has a mark
pub index-requires : goal.index-requires
index-requires c =
    let graph = c.args.problem.now in
    let edges = c.outputs-edge-items.result.now in
    let edge = get_or edges c.loop-edge.edge-index 0 in
    let same = c.outputs-edge-items.ensures.of_graph graph c.requires.timing.links in
    omega (
      arith,
      (outputs_parts graph c.args.process edge
          (subst (λ ys. Contains ys edge) same
          (Contains-get_or edges c.loop-edge.edge-index 0 c.loop-edge-test.true))).0,
      live_long graph c.args.timing.now c.requires.timing,
    )

-- an output of the process is an edge of the graph
pub target-requires : goal.target-requires
target-requires c =
    let graph = c.args.problem.now in
    let edges = c.outputs-edge-items.result.now in
    let edge = get_or edges c.loop-edge.edge-index 0 in
    let same = c.outputs-edge-items.ensures.of_graph graph c.requires.timing.links in
    (outputs_parts graph c.args.process edge
    (subst (λ ys. Contains ys edge) same (Contains-get_or edges c.loop-edge.edge-index 0 c.loop-edge-test.true))).0

-- the target of a live output is added if it can be placed, and any other output is passed over
pub loop-edge-preserved : goal.loop-edge-preserved
loop-edge-preserved c =
    let graph = c.args.problem.now in
    let outcome = outcome_of c.args.timing.now in
    let starts = c.args.starts.now in
    let index = c.loop-edge.edge-index in
    let edges = c.outputs-edge-items.result.now in
    let edge = get_or edges index 0 in
    let all = outputs graph c.args.process in
    -- the edge at hand is one of the outputs, and one of the graph
    let same = c.outputs-edge-items.ensures.of_graph graph c.requires.timing.links in
    let short : index < length all = omega (arith, ap length same, c.loop-edge-test.true) in
    let more : take (index + 1) all ≡ take index all ++ edge ∷ [] =
    take_more all index 0 short ∙ ap (λ ys. take index all ++ get_or ys index 0 ∷ []) (sym same) in
    let inside : edge < edge_count graph = (outputs_parts graph c.args.process edge
    (subst (λ ys. Contains ys edge) same (Contains-get_or edges index 0 c.loop-edge-test.true))).0 in
    let live_is = c.index.ensures ∙ live_at graph c.args.timing.now c.requires.timing edge c.index.result.now inside in
    elim c.if-index.branch [
      -- the edge is live: its target is added if it can be placed
      | then-index+in_ok-feed w ↦
          let is = ap (λ v. v.items) w.fed-is in
          let feeds = subst (λ t. Feeds graph outcome starts t c.loop-edge.fed.items w.feed.new.fed.items)
          w.target.ensures.target
          w.in_ok-feed.ensures in
          record {
            each = λ added listed. feeds.each c.loop-edge.invariant.each added
                (subst (λ ys. Contains ys added) is listed);
            kept = λ q listed.
                subst (λ ys. Contains (processes_of ys) q) (sym is)
                (feeds.kept q (c.loop-edge.invariant.kept q listed));
            targets = subst (λ es. AreTargetsFed graph outcome starts es c.if-index.fed.items) (sym more)
                (subst (AreTargetsFed graph outcome starts (take index all ++ edge ∷ [])) (sym is)
                (target_asked graph outcome starts
                (take index all) edge c.loop-edge.fed.items w.feed.new.fed.items feeds c.loop-edge.invariant.targets));
          }
      -- the edge isn't live: it is passed over
      | else-index w ↦
          let is = ap (λ v. v.items) w.fed-is in
          record {
            each = λ added listed. c.loop-edge.invariant.each added (subst (λ ys. Contains ys added) is listed);
            kept = λ q listed. subst (λ ys. Contains (processes_of ys) q) (sym is)
                (c.loop-edge.invariant.kept q listed);
            targets = subst (λ es. AreTargetsFed graph outcome starts es c.if-index.fed.items) (sym more)
                (subst (AreTargetsFed graph outcome starts (take index all ++ edge ∷ [])) (sym is)
                (target_passed graph outcome starts (take index all) edge c.loop-edge.fed.items
                (sym live_is ∙ w.if-index.false) c.loop-edge.invariant.targets));
          }
    ]

-- the targets of all outputs have been asked, so what can be placed is complete
pub returns : goal.returns
returns c =
    let graph = c.args.problem.now in
    let outcome = outcome_of c.args.timing.now in
    let same = c.outputs-edge-items.ensures.of_graph graph c.requires.timing.links in
    let done = take_all c.loop-edge.edge-index (outputs graph c.args.process)
    (omega (arith, ap length same, c.loop-edge-test.false)) in
    all_targets_asked graph outcome c.args.starts.now c.args.process c.args.fed.now.items c.loop-edge.fed.items
    c.requires.fed
    c.loop-edge.invariant.each c.loop-edge.invariant.kept
    (subst (λ es. AreTargetsFed graph outcome c.args.starts.now es c.loop-edge.fed.items) done
    c.loop-edge.invariant.targets)
