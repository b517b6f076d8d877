-- Proof of `narrow_by_values`: narrows a cube by the values that these conditions have in a scenario.
use Rattle.std.proofs.Common.{get_or, map, subst}
use Rattle.std.proofs.lemmas.List.{take_all}
use Rattle.std.proofs.lemmas.List.Elements.{Contains-get_or}
use Rattle.cpg_base.specs.Graph.{value_variable}
use Rattle.cpg_run.specs.Carried.{number_known}
use Rattle.cpg_list.specs.Narrowing.{IsNarrowed}
use Rattle.cpg_list.proofs.CodeCubes.{narrowed_none}
use Rattle.cpg_list.proofs.CodeTold.{narrowed_map}
use Rattle.cpg_list.proofs.learning.narrow_by_values.Goals as goal

-- before the loop the cube is narrowed by nothing
pub loop-condition-init : goal.loop-condition-init
loop-condition-init c = narrowed_none c.args.problem.now.faults c.args.cube.now

-- the condition of this turn is one of the conditions
pub narrow_by_value-requires-clause-condition : goal.narrow_by_value-requires-clause-condition
narrow_by_value-requires-clause-condition c =
    c.requires.conditions (get_or c.args.conditions.now c.loop-condition.condition-index 0)
    (Contains-get_or c.args.conditions.now c.loop-condition.condition-index 0 c.loop-condition-test.true)

-- the cube, narrowed by the values so far, is narrowed by the value of this turn's condition
pub loop-condition-preserved : goal.loop-condition-preserved
loop-condition-preserved c =
    narrowed_map c.args.problem.now.faults c.args.cube.now c.loop-condition.cube c.narrow_by_value.new.cube
    (λ d. number_known c.args.scenario.now (value_variable d)) c.args.conditions.now c.loop-condition.condition-index 0
    c.loop-condition-test.true c.loop-condition.invariant
    c.in_ok-narrow_by_value.ensures

-- at the end of the loop the conditions so far are all conditions
pub returns : goal.returns
returns c = subst (λ cs. IsNarrowed c.args.problem.now.faults
    (map (λ d. number_known c.args.scenario.now (value_variable d)) cs) c.args.cube.now c.loop-condition.cube)
    (take_all c.loop-condition.condition-index c.args.conditions.now c.loop-condition-test.false)
    c.loop-condition.invariant
