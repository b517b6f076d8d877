-- Proof of `tables_have_shape`: tables under the head for a graph have a row for each item that a node starts or
-- sends, and use variables that there are.
use Rattle.cpg_table.proofs.GraphTables.{has_shape}
use Rattle.cpg_table.proofs.tables_have_shape.Goals as goal

-- `has_shape` of the lemmas is a proof of this law
pub returns : goal.returns
returns c = λ g tables w. has_shape g w tables
