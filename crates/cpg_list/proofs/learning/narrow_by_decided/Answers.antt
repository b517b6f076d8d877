-- Proof of `narrow_by_decided`: narrows a cube by the values of the conditions that decide a process.
use Rattle.std.proofs.Common.{ℕ, map}
use Rattle.cpg_base.specs.Graph.{condition_count, value_variable}
use Rattle.cpg_base.specs.Numbers.{numbers_below}
use Rattle.cpg_base.proofs.Lists.{Contains-filter_parts, numbers-Contains}
use Rattle.cpg_order.specs.Deciding.{decides, deciding}
use Rattle.cpg_cube.specs.declared.literal.Literal.{Literal}
use Rattle.cpg_run.specs.Carried.{number_known, decided}
use Rattle.cpg_list.proofs.CodeCubes.{narrowed_same}
use Rattle.cpg_list.proofs.CodeTold.{within_map}
use Rattle.cpg_list.proofs.learning.narrow_by_decided.Goals as goal

-- the deciding conditions are chosen among the conditions of the graph
pub narrow_by_values-requires-clause-conditions : goal.narrow_by_values-requires-clause-conditions
narrow_by_values-requires-clause-conditions c d j =
    let graph = c.args.problem.now in
    numbers-Contains (condition_count graph) d
    (Contains-filter_parts (decides graph c.args.scenario.now.values c.args.process)
    (numbers_below (condition_count graph)) d (c.requires.conditions.each d j)).0

-- the given conditions are those that decide the process in another order, and to a cube the order of literals is the same
pub returns : goal.returns
returns c =
    let graph = c.args.problem.now in
    let scenario = c.args.scenario.now in
    let all = deciding graph scenario.values c.args.process in
    let literal : ℕ → Literal = λ d. number_known scenario (value_variable d) in
    narrowed_same graph.faults (map literal c.args.conditions.now)
    (decided graph scenario c.args.process) c.args.cube.now c.narrow_by_values.new.cube
    (within_map c.args.conditions.now all c.requires.conditions.each literal)
    (within_map all c.args.conditions.now c.requires.conditions.all literal) c.in_ok-narrow_by_values.ensures
