-- Proof of `narrow_by_heard`: narrows a cube by the literals that the node of a process hears with the broadcasts of
-- the conditions that decide the process.
use Rattle.std.proofs.Common.{flat_map, subst}
use Rattle.cpg_base.specs.Graph.{condition_count}
use Rattle.cpg_base.specs.Numbers.{numbers_below}
use Rattle.cpg_base.proofs.Lists.{Contains-filter_parts, numbers-Contains}
use Rattle.cpg_order.specs.Deciding.{decides, deciding}
use Rattle.cpg_list.specs.Learning.{heard_of}
use Rattle.cpg_run.specs.Found.{columns_of_rows}
use Rattle.cpg_list.specs.Narrowing.{IsNarrowed}
use Rattle.cpg_list.proofs.CodeCubes.{narrowed_same}
use Rattle.cpg_list.proofs.CodeTold.{within_flat_map}
use Rattle.cpg_list.proofs.learning.narrow_by_heard.Goals as goal

-- the deciding conditions are chosen among the conditions of the graph
pub narrow_by_conditions-requires-clause-conditions : goal.narrow_by_conditions-requires-clause-conditions
narrow_by_conditions-requires-clause-conditions c d j =
    let graph = c.args.frames.now.problem.now in
    numbers-Contains (condition_count graph) d (Contains-filter_parts
    (decides graph c.args.frames.now.scenario.now.values c.args.process) (numbers_below (condition_count graph)) d
    (c.requires.conditions.each d j)).0

-- the row of each deciding condition's broadcast is made
pub narrow_by_conditions-requires-clause-told : goal.narrow_by_conditions-requires-clause-told
narrow_by_conditions-requires-clause-told c d j = c.requires.told d (c.requires.conditions.each d j)

-- the given conditions are those that decide the process in another order, and to a cube the order of literals is the same
pub returns : goal.returns
returns c =
    let graph = c.args.frames.now.problem.now in
    let scenario = c.args.frames.now.scenario.now in
    let rows = columns_of_rows c.args.frames.now.rows.now in
    let node = c.node_of-node.result in
    let all = deciding graph scenario.values c.args.process in
    let literals = heard_of graph rows scenario node in
    subst
    (λ n. IsNarrowed graph.faults (flat_map (heard_of graph rows scenario n) all) c.args.cube.now
    c.narrow_by_conditions.new.cube)
    c.node_of-node.ensures.node
    (narrowed_same graph.faults (flat_map literals c.args.conditions.now)
    (flat_map literals all) c.args.cube.now c.narrow_by_conditions.new.cube
    (within_flat_map c.args.conditions.now all c.requires.conditions.each literals)
    (within_flat_map all c.args.conditions.now c.requires.conditions.all literals) c.in_ok-narrow_by_conditions.ensures)
