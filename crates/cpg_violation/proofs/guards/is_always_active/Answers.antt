-- Proof of `is_always_active`: whether a process is active in every scenario.
use Rattle.std.proofs.Common.{ap, ◌∙◌, ◌≡◌}
use Rattle.cpg_base.specs.Graph.{Graph}
use Rattle.cpg_tree.proofs.Passes.{of_true}
use Rattle.cpg_violation.proofs.SpaceLaws.{few_of}
use Rattle.cpg_violation.proofs.guards.is_always_active.Goals as goal

-- every scenario of the graph has at most its faults, and so is in the whole space, in which the process is active
pub returns : goal.returns
returns c =
    let graph = c.args.admitted.now.graph in
    let faults : c.faults.result ≡ graph.faults =
    c.faults.ensures.faults ∙ ap (λ (h : Graph). h.faults) c.problem.ensures.problem in
    of_true c.is_running.result c.is_running.ensures
    (λ told s lawful. told s lawful (c.whole-space.ensures.lies s (few_of graph c.faults.result faults s lawful)))
