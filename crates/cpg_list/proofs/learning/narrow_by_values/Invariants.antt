-- Loops of `narrow_by_values`: narrows a cube by the values that these conditions have in a scenario.
use Rattle.std.proofs.Common.{map, take}
use Rattle.cpg_base.specs.Graph.{value_variable}
use Rattle.cpg_run.specs.Carried.{number_known}
use Rattle.cpg_list.specs.Narrowing.{IsNarrowed}
use Rattle.cpg_list.proofs.learning.narrow_by_values.Given as goal

-- the cube is the old one narrowed by the scenario's values of the conditions so far
abbrev pub invariant-loop-condition : goal.invariant-loop-condition
invariant-loop-condition l = IsNarrowed l.problem.faults
    (map (λ c. number_known l.scenario (value_variable c)) (take l.condition-index l.conditions)) l.fn.cube l.cube
