-- Proof of `is_item_running`: whether an item is active in each scenario of a space.
use Rattle.std.proofs.Common.{◌∙◌}
use Rattle.cpg_tree.proofs.Passes.{of_true}
use Rattle.cpg_violation.specs.declared.sources.ItemSource.{ItemSource}
use Rattle.cpg_violation.proofs.GuardLaws.{as_source}
use Rattle.cpg_violation.proofs.guards.is_item_running.Goals as goal

-- the item is active exactly if its process is, and the process is running
pub returns-in-Process : goal.returns-in-Process
returns-in-Process c =
    let graph = c.args.admitted.now.graph in
    let active = as_source graph c.args.item c.item_source.result (ItemSource.Process c.in-Process.process)
    (rw c.problem.ensures.problem at c.item_source.ensures.active) c.in-Process.is in
    of_true c.is_running.result c.is_running.ensures (λ told s lawful lies. active s.values ∙ told s lawful lies)

-- the item is active exactly if its edge is live, and the edge is running
pub returns-in-Edge : goal.returns-in-Edge
returns-in-Edge c =
    let graph = c.args.admitted.now.graph in
    let active = as_source graph c.args.item c.item_source.result (ItemSource.Edge c.in-Edge.edge)
    (rw c.problem.ensures.problem at c.item_source.ensures.active) c.in-Edge.is in
    of_true c.is_edge_running.result c.is_edge_running.ensures
    (λ told s lawful lies. active s.values ∙ told s lawful lies)
