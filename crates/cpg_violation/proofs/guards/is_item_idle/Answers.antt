-- Proof of `is_item_idle`: whether an item is active in no scenario of a space.
use Rattle.std.proofs.Common.{◌∙◌}
use Rattle.cpg_tree.proofs.Passes.{of_true}
use Rattle.cpg_violation.specs.declared.sources.ItemSource.{ItemSource}
use Rattle.cpg_violation.proofs.GuardLaws.{as_source}
use Rattle.cpg_violation.proofs.guards.is_item_idle.Goals as goal

-- an item with no source is never active
pub returns-in-Nothing : goal.returns-in-Nothing
returns-in-Nothing c s lawful lies =
    let graph = c.args.admitted.now.graph in
    as_source graph c.args.item c.item_source.result ItemSource.Nothing
    (rw c.problem.ensures.problem at c.item_source.ensures.active) c.in-Nothing.is s.values

-- the item is active exactly if its process is, and the process is idle
pub returns-in-Process : goal.returns-in-Process
returns-in-Process c =
    let graph = c.args.admitted.now.graph in
    let active = as_source graph c.args.item c.item_source.result (ItemSource.Process c.in-Process.process)
    (rw c.problem.ensures.problem at c.item_source.ensures.active) c.in-Process.is in
    of_true c.is_idle.result c.is_idle.ensures (λ told s lawful lies. active s.values ∙ told s lawful lies)

-- the item is active exactly if its edge is live, and the edge is idle
pub returns-in-Edge : goal.returns-in-Edge
returns-in-Edge c =
    let graph = c.args.admitted.now.graph in
    let active = as_source graph c.args.item c.item_source.result (ItemSource.Edge c.in-Edge.edge)
    (rw c.problem.ensures.problem at c.item_source.ensures.active) c.in-Edge.is in
    of_true c.is_edge_idle.result c.is_edge_idle.ensures (λ told s lawful lies. active s.values ∙ told s lawful lies)
