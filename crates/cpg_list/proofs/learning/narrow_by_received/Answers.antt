-- Proof of `narrow_by_received`: narrows a cube by the literals that come with the messages to a process.
use Rattle.std.proofs.Common.{Contains, flat_map, subst}
use Rattle.cpg_base.proofs.Inputs.{inputs_parts}
use Rattle.cpg_list.specs.Frames.{IsNarrowedIn, received_in}
use Rattle.cpg_list.proofs.learning.narrow_by_received.Goals as goal

-- the inputs of a process are edges of the graph
pub narrow_by_inputs-requires-clause-edges : goal.narrow_by_inputs-requires-clause-edges
narrow_by_inputs-requires-clause-edges c e j = (inputs_parts c.args.frames.now.problem.now c.args.process e
    (subst (λ es. Contains es e) c.inputs-edges.ensures j)).0

-- the row of each input's message is made
pub narrow_by_inputs-requires-clause-told : goal.narrow_by_inputs-requires-clause-told
narrow_by_inputs-requires-clause-told c e j = c.requires.told e (subst (λ es. Contains es e) c.inputs-edges.ensures j)

-- the edges of the plan are the inputs of the process
pub returns : goal.returns
returns c = subst (λ es. IsNarrowedIn c.args.frames.now
    (flat_map (received_in c.args.frames.now) es) c.args.cube.now c.narrow_by_inputs.new.cube) c.inputs-edges.ensures
    c.in_ok-narrow_by_inputs.ensures
