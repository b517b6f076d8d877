-- Proof of `narrow_by_conditions`: narrows a cube by the literals that a node hears with the broadcasts of conditions,
-- except its own.
use Rattle.std.proofs.Common.{get_or, flat_map, subst}
use Rattle.std.proofs.lemmas.List.{take_all}
use Rattle.std.proofs.lemmas.List.Elements.{Contains-get_or}
use Rattle.cpg_list.specs.Learning.{heard_of}
use Rattle.cpg_list.specs.Frames.{IsNarrowedIn, heard_in}
use Rattle.cpg_run.specs.Found.{columns_of_rows}
use Rattle.cpg_list.proofs.CodeCubes.{narrowed_none}
use Rattle.cpg_list.proofs.CodeTold.{narrowed_flat_map}
use Rattle.cpg_list.proofs.learning.narrow_by_conditions.Goals as goal

-- before the loop the cube is narrowed by nothing
pub loop-condition-init : goal.loop-condition-init
loop-condition-init c = narrowed_none c.args.frames.now.problem.now.faults c.args.cube.now

-- the condition of this turn is one of the conditions
pub narrow_by_condition-requires-clause-condition : goal.narrow_by_condition-requires-clause-condition
narrow_by_condition-requires-clause-condition c =
    c.requires.conditions (get_or c.args.conditions.now c.loop-condition.condition-index 0)
    (Contains-get_or c.args.conditions.now c.loop-condition.condition-index 0 c.loop-condition-test.true)

-- the row of the broadcast of this turn's condition is made
pub narrow_by_condition-requires-clause-told : goal.narrow_by_condition-requires-clause-told
narrow_by_condition-requires-clause-told c =
    c.requires.told (get_or c.args.conditions.now c.loop-condition.condition-index 0)
    (Contains-get_or c.args.conditions.now c.loop-condition.condition-index 0 c.loop-condition-test.true)

-- the cube, narrowed by the conditions so far, is narrowed by what the node hears of the condition of this turn
pub loop-condition-preserved : goal.loop-condition-preserved
loop-condition-preserved c = narrowed_flat_map c.args.frames.now.problem.now.faults c.args.cube.now
    c.loop-condition.cube c.narrow_by_condition.new.cube
    (heard_of c.args.frames.now.problem.now (columns_of_rows c.args.frames.now.rows.now) c.args.frames.now.scenario.now
    c.args.node) c.args.conditions.now c.loop-condition.condition-index 0
    c.loop-condition-test.true c.loop-condition.invariant c.in_ok-narrow_by_condition.ensures

-- at the end of the loop the conditions so far are all conditions
pub returns : goal.returns
returns c = subst (λ xs. IsNarrowedIn c.args.frames.now
    (flat_map (heard_in c.args.frames.now c.args.node) xs) c.args.cube.now c.loop-condition.cube)
    (take_all c.loop-condition.condition-index c.args.conditions.now c.loop-condition-test.false)
    c.loop-condition.invariant
