-- Proof of `least_inactive`: the least scenario that a cube matches and in which an item isn't active.
use Rattle.cpg_violation.specs.declared.sources.ItemSource.{ItemSource}
use Rattle.cpg_violation.proofs.GuardLaws.{as_source}
use Rattle.cpg_check_rows.proofs.ActivityLaws.{inactive_as, inactive_never}
use Rattle.cpg_check_rows.proofs.activity.least_inactive.Goals as goal

-- nothing makes the item active, so the least scenario of the cube is the answer
pub returns-in-Nothing : goal.returns-in-Nothing
returns-in-Nothing c =
    let graph = c.args.admitted.now.graph in
    let item = c.args.item in
    -- what `item_source` says of the item, with the source at hand
    let is = as_source graph item c.item_source.result ItemSource.Nothing
    (rw c.problem-problem.ensures.problem at c.item_source.ensures.active) c.in-Nothing.is in
    inactive_never graph c.args.admitted.now.order c.args.cube.now item is c.least.result
    (rw c.problem-problem.ensures.problem at c.least.ensures.first)

-- the item is active exactly if its process is
pub returns-in-Process : goal.returns-in-Process
returns-in-Process c =
    let graph = c.args.admitted.now.graph in
    let item = c.args.item in
    -- what `item_source` says of the item, with the source at hand
    let is = as_source graph item c.item_source.result (ItemSource.Process c.in-Process.process)
    (rw c.problem-problem.ensures.problem at c.item_source.ensures.active) c.in-Process.is in
    inactive_as graph c.args.admitted.now.order c.args.cube.now item
    (ItemSource.Process c.in-Process.process) is c.least_idle.result c.least_idle.ensures

-- the item is active exactly if its edge is live
pub returns-in-Edge : goal.returns-in-Edge
returns-in-Edge c =
    let graph = c.args.admitted.now.graph in
    let item = c.args.item in
    -- what `item_source` says of the item, with the source at hand
    let is = as_source graph item c.item_source.result (ItemSource.Edge c.in-Edge.edge)
    (rw c.problem-problem.ensures.problem at c.item_source.ensures.active) c.in-Edge.is in
    inactive_as graph c.args.admitted.now.order c.args.cube.now item
    (ItemSource.Edge c.in-Edge.edge) is c.least_unlive.result c.least_unlive.ensures
