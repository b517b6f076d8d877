-- Proof of `generate`, which returns the graph that a number generates: 60 processes on four nodes with at most two
-- conditions, for two faults, with a deadline of 10^9 time units.
use Rattle.cpg_gen.proofs.Limits.{parts_within}
use Rattle.cpg_gen.proofs.generation.generate.Goals as goal

-- the parts that were made are those of the generated graph, so they are within the limits
pub of-requires : goal.of-requires
of-requires c = parts_within c.args.number c.in_ok-nodes.nodes.items c.in_ok-slots.slots.items
    c.in_ok-drawn.drawn.processes.items c.in_ok-drawn.drawn.edges.items
    c.in_ok-nodes.ensures c.in_ok-slots.ensures c.in_ok-drawn.ensures.processes c.in_ok-drawn.ensures.edges
