-- Proof of `after_inputs`, which returns `floor`, raised to the latest arrival, where `active` is true, of any of these
-- inputs that comes from another node.
use Rattle.std.proofs.Common.{get_or, refl}
use Rattle.cpg_expand.proofs.LatestFound.{next_raised}
use Rattle.cpg_expand.proofs.latest.after_inputs.Goals as goal

-- this input raises the time by when it is there
pub loop-edge-preserved : goal.loop-edge-preserved
loop-edge-preserved c =
    next_raised c.args.problem.now c.args.forest.now c.args.active.now c.args.edges.now c.loop-edge.edge-index
    (get_or c.args.edges.now c.loop-edge.edge-index 0) c.loop-edge-test.true refl
    c.args.floor c.loop-edge.latest c.after_input-latest.result c.loop-edge.invariant c.after_input-latest.ensures
