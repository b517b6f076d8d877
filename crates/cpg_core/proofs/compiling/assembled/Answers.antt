-- Proof of `assembled`: returns the tables that have these rows, with the order under which they were built.
use Rattle.cpg_core.proofs.RowsCompiled.{assembled_compilation}
use Rattle.cpg_core.proofs.compiling.assembled.Goals as goal

-- the rows of a compile can be written
pub assemble-requires : goal.assemble-requires
assemble-requires c = c.requires.writable

-- the tables of these rows are the compile's
pub returns : goal.returns
returns c = assembled_compilation c.args.admitted.now.graph c.args.admitted.now.order c.args.rows
    (record { built = c.in_ok-built.built; order = c.in_ok-order.order }) c.requires
    c.in_ok-built.ensures c.in_ok-order.ensures
