-- Proof of `execution_sequences`: the rows of all processes, with how long they execute, and for each node the order in
-- which its executions follow one another, if one is known.
use Rattle.cpg_check_quick.specs.Order.{execution}
use Rattle.cpg_check_quick.proofs.sequences.execution_sequences.Goals as goal

-- the rows are those of the executions, and V3 holds, as `Sequences::of` asks
pub returns-clause-sequences : goal.returns-clause-sequences
returns-clause-sequences c = c.in_ok-sequences.ensures.sequences c.args.admitted.now.graph c.args.tables.now.nodes
    (execution c.args.admitted.now.graph) c.in_ok-rows.ensures.rows c.requires.rules.1.1.0
