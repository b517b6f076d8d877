-- Proof of `latest_there`: when all live inputs among these are there.
use Rattle.std.proofs.Common.{ℕ, ◌∷◌, ◌≡◌, [], ◌∙◌, List, ap, ap₂, get_or, if◌then◌else◌, map, max, rules, sym, take}
use Rattle.std.proofs.lemmas.List.{map-append, take_more}
use Rattle.std.proofs.lemmas.List.Elements.{Contains-get_or}
use Rattle.cpg_base.proofs.Lists.{greatest_push}
use Rattle.cpg_base.specs.Activity.{live}
use Rattle.cpg_base.specs.Numbers.{greatest}
use Rattle.cpg_run.specs.Run.{input_there}
use Rattle.cpg_run.proofs.waiting.latest_there.Goals as goal

-- each of the edges is one of the graph
pub live_there-requires-clause-edge : goal.live_there-requires-clause-edge
live_there-requires-clause-edge c = c.requires.edges (get_or c.args.edges.now c.loop-edge.edge-index 0)
    (Contains-get_or c.args.edges.now c.loop-edge.edge-index 0 c.loop-edge-test.true)

-- the next edge makes the time later, or doesn't
pub loop-edge-preserved : goal.loop-edge-preserved
loop-edge-preserved c =
    let g = c.args.problem.now in
    let edges = c.args.edges.now in
    let place = c.loop-edge.edge-index in
    -- when an edge is there, 0 if it isn't live
    let there : ℕ → ℕ = λ e. if live g c.args.scenario.now.values e then input_there g c.args.known.now e else 0 in
    let later : c.max-latest.result ≡ max c.loop-edge.latest c.live_there.result = search rules in
    later ∙ ap₂ max c.loop-edge.invariant c.live_there.ensures
    ∙ sym (ap (λ (es : List ℕ). greatest (map there es)) (take_more edges place 0 c.loop-edge-test.true)
    ∙ ap greatest (map-append there (take place edges) (get_or edges place 0 ∷ []))
    ∙ greatest_push (map there (take place edges)) (there (get_or edges place 0)))
