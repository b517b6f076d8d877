-- Loops of `narrow_by_conditions`: narrows a cube by the literals that a node hears with the broadcasts of conditions,
-- except its own.
use Rattle.std.proofs.Common.{flat_map, take}
use Rattle.cpg_list.specs.Learning.{heard_of}
use Rattle.cpg_run.specs.Found.{columns_of_rows}
use Rattle.cpg_list.specs.Narrowing.{IsNarrowed}
use Rattle.cpg_list.proofs.learning.narrow_by_conditions.Given as goal

-- the cube is the old one narrowed by what the node hears of the conditions so far
abbrev pub invariant-loop-condition : goal.invariant-loop-condition
invariant-loop-condition l = IsNarrowed l.frames.problem.now.faults
    (flat_map (heard_of l.frames.problem.now (columns_of_rows l.frames.rows.now) l.frames.scenario.now l.node)
    (take l.condition-index l.conditions)) l.fn.cube l.cube
