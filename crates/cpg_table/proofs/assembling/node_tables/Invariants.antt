-- Loops of `node_tables`: the tables of the nodes, each with the rows that it hears.
use Rattle.std.proofs.Common.{ℕ, ◌≡◌, ◌+◌, ◌≤◌, ◌<◌, All, length, map}
use Rattle.std.specs.List.{range_with_len}
use Rattle.cpg_base.specs.Graph.{item_count}
use Rattle.cpg_table.specs.Table.{Row}
use Rattle.cpg_table.specs.Writing.{hears_at, own_rows, AreNodeTables}
use Rattle.cpg_table.proofs.assembling.node_tables.Given as goal

-- `count`, `hears`: the iterator has the heard rows of the nodes from `node` on. `tables`: those of the nodes before are
-- made. `left`, `items`: the rows left are of items of the graph, with all own rows of the nodes from `node` on
abbrev pub invariant-loop-heard : goal.invariant-loop-heard
invariant-loop-heard l = record {
  count : l.node + length l.heard-iterator.rest.items ≡ length l.problem.nodes;
  hears : map (λ h. h.items) l.heard-iterator.rest.items
      ≡ map (hears_at l.problem l.fn.rows.items) (range_with_len l.node (length l.heard-iterator.rest.items));
  tables : AreNodeTables l.problem l.fn.rows.items l.node l.tables.items;
  left : (m : ℕ) → l.node ≤ m → own_rows l.problem m l.left.items ≡ own_rows l.problem m l.fn.rows.items;
  items : All (λ (row : Row). row.item < item_count l.problem) l.left.items;
}
