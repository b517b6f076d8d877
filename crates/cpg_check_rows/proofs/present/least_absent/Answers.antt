-- Proof of `least_absent`: the least scenario in which an item is active and none of these columns matches.
use Rattle.cpg_violation.specs.declared.sources.ItemSource.{ItemSource}
use Rattle.cpg_violation.proofs.GuardLaws.{as_source}
use Rattle.cpg_check_rows.proofs.PresentLaws.{absent_as, absent_never}
use Rattle.cpg_check_rows.proofs.present.least_absent.Goals as goal

-- nothing makes the item active, so it never lacks a column
pub returns-in-Nothing : goal.returns-in-Nothing
returns-in-Nothing c =
    let graph = c.args.admitted.now.graph in
    let item = c.args.item in
    -- what `item_source` says of the item, with the source at hand
    let is = as_source graph item c.item_source.result ItemSource.Nothing
    (rw c.problem.ensures.problem at c.item_source.ensures.active) c.in-Nothing.is in
    absent_never graph c.args.admitted.now.order c.args.columns.now item is

-- the item is active exactly if its process is
pub returns-in-Process : goal.returns-in-Process
returns-in-Process c =
    let graph = c.args.admitted.now.graph in
    let item = c.args.item in
    -- what `item_source` says of the item, with the source at hand
    let is = as_source graph item c.item_source.result (ItemSource.Process c.in-Process.process)
    (rw c.problem.ensures.problem at c.item_source.ensures.active) c.in-Process.is in
    absent_as graph c.args.admitted.now.order c.args.columns.now item
    (ItemSource.Process c.in-Process.process) is c.least_unstarted.result c.least_unstarted.ensures

-- the item is active exactly if its edge is live
pub returns-in-Edge : goal.returns-in-Edge
returns-in-Edge c =
    let graph = c.args.admitted.now.graph in
    let item = c.args.item in
    -- what `item_source` says of the item, with the source at hand
    let is = as_source graph item c.item_source.result (ItemSource.Edge c.in-Edge.edge)
    (rw c.problem.ensures.problem at c.item_source.ensures.active) c.in-Edge.is in
    absent_as graph c.args.admitted.now.order c.args.columns.now item
    (ItemSource.Edge c.in-Edge.edge) is c.least_uncarried.result c.least_uncarried.ensures
