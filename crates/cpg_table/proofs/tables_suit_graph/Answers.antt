-- Proof of `tables_suit_graph`: tables of a graph say of each node's own processes what the graph says, and have a
-- row for each item that the node hears.
use Rattle.cpg_table.proofs.GraphTables.{suits_graph}
use Rattle.cpg_table.proofs.tables_suit_graph.Goals as goal

-- `suits_graph` of the lemmas is a proof of this law
pub returns : goal.returns
returns c = λ g tables w. suits_graph g w tables
