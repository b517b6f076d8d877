-- Proof of `Cluster::new`, which returns all nodes before their first turns, with each execution as long as planned,
-- and with all the room that a play needs.
use Rattle.std.proofs.Common.{sym, subst, ap, ◌∙◌, List, ℕ}
use Rattle.cpg_base.specs.Scenario.{full_lengths}
use Rattle.cpg_cluster.specs.Correct.{IsWorld}
use Rattle.cpg_cluster.proofs.Opening.{full_world}
use Rattle.cpg_cluster.proofs.cluster.Cluster.new.Goals as goal

-- with its full lengths, which are the durations, a scenario is a world
pub with_lengths-requires-clause-world : goal.with_lengths-requires-clause-world
with_lengths-requires-clause-world c =
    let graph = c.args.admitted.now.graph in
    let scenario = c.args.scenario.now in
    subst (λ (ls : List ℕ). IsWorld graph (record { scenario = scenario; lengths = ls }))
    (sym (c.in_ok-lengths.ensures ∙ ap (λ g. full_lengths g scenario) c.problem.ensures.problem))
    (full_world graph scenario c.problem.ensures.admitted.well_formed c.requires.scenario)
