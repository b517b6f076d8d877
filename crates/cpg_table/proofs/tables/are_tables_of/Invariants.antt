-- Loops of `are_tables_of`: whether each table is that of its node.
use Rattle.std.proofs.Common.{◌≡◌, ◌<◌, ℕ}
use Rattle.cpg_table.specs.Table.{table_at}
use Rattle.cpg_table.specs.Lawful.{IsTableOf}
use Rattle.cpg_table.proofs.tables.are_tables_of.Given as goal

-- `node` is the number of the next table, and each table so far is one of the node with its number
abbrev pub invariant-loop-table : goal.invariant-loop-table
invariant-loop-table l = record {
  counted : l.node ≡ l.table-index;
  each : (k : ℕ) → k < l.table-index → IsTableOf l.head k (table_at l.nodes k);
}
