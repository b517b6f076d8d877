-- Loops of `narrow_by_inputs`: narrows a cube by the literals that come with those of these edges that are messages.
use Rattle.std.proofs.Common.{flat_map, take}
use Rattle.cpg_list.specs.Learning.{received_by}
use Rattle.cpg_run.specs.Found.{columns_of_rows}
use Rattle.cpg_list.specs.Narrowing.{IsNarrowed}
use Rattle.cpg_list.proofs.learning.narrow_by_inputs.Given as goal

-- the cube is the old one narrowed by what the inputs so far carry
abbrev pub invariant-loop-edge : goal.invariant-loop-edge
invariant-loop-edge l = IsNarrowed l.frames.problem.now.faults (flat_map (received_by l.frames.problem.now
    (columns_of_rows l.frames.rows.now) l.frames.scenario.now) (take l.edge-index l.edges))
    l.fn.cube l.cube
