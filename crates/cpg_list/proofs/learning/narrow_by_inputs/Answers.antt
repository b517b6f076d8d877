-- Proof of `narrow_by_inputs`: narrows a cube by the literals that come with those of these edges that are messages.
use Rattle.std.proofs.Common.{get_or, flat_map, subst}
use Rattle.std.proofs.lemmas.List.{take_all}
use Rattle.std.proofs.lemmas.List.Elements.{Contains-get_or}
use Rattle.cpg_list.specs.Learning.{received_by}
use Rattle.cpg_list.specs.Frames.{IsNarrowedIn, received_in}
use Rattle.cpg_run.specs.Found.{columns_of_rows}
use Rattle.cpg_list.proofs.CodeCubes.{narrowed_none}
use Rattle.cpg_list.proofs.CodeTold.{narrowed_flat_map}
use Rattle.cpg_list.proofs.learning.narrow_by_inputs.Goals as goal

-- before the loop the cube is narrowed by nothing
pub loop-edge-init : goal.loop-edge-init
loop-edge-init c = narrowed_none c.args.frames.now.problem.now.faults c.args.cube.now

-- the edge of this turn is one of the edges
pub narrow_by_input-requires-clause-edge : goal.narrow_by_input-requires-clause-edge
narrow_by_input-requires-clause-edge c = c.requires.edges (get_or c.args.edges.now c.loop-edge.edge-index 0)
    (Contains-get_or c.args.edges.now c.loop-edge.edge-index 0 c.loop-edge-test.true)

-- the row of the message of this turn's edge is made
pub narrow_by_input-requires-clause-told : goal.narrow_by_input-requires-clause-told
narrow_by_input-requires-clause-told c = c.requires.told (get_or c.args.edges.now c.loop-edge.edge-index 0)
    (Contains-get_or c.args.edges.now c.loop-edge.edge-index 0 c.loop-edge-test.true)

-- the cube, narrowed by the inputs so far, is narrowed by what the input of this turn carries
pub loop-edge-preserved : goal.loop-edge-preserved
loop-edge-preserved c =
    narrowed_flat_map c.args.frames.now.problem.now.faults c.args.cube.now c.loop-edge.cube c.narrow_by_input.new.cube
    (received_by c.args.frames.now.problem.now (columns_of_rows c.args.frames.now.rows.now)
    c.args.frames.now.scenario.now) c.args.edges.now c.loop-edge.edge-index 0 c.loop-edge-test.true
    c.loop-edge.invariant c.in_ok-narrow_by_input.ensures

-- at the end of the loop the edges so far are all edges
pub returns : goal.returns
returns c = subst (λ xs.
    IsNarrowedIn c.args.frames.now (flat_map (received_in c.args.frames.now) xs) c.args.cube.now c.loop-edge.cube)
    (take_all c.loop-edge.edge-index c.args.edges.now c.loop-edge-test.false) c.loop-edge.invariant
