-- Loops of `nodes_of`: the tables of all nodes.
use Rattle.std.proofs.Common.{◌≡◌, ◌+◌, ◌-◌, ◌≤◌, ℕ, length}
use Rattle.cpg_base.specs.declared.limits.TheConstants.{MOST_LOAD}
use Rattle.cpg_table.specs.Table.{NodeTable}
use Rattle.cpg_table.specs.Lawful.{column_count, rows_of}
use Rattle.cpg_codec.specs.Reading.{read_each}
use Rattle.cpg_codec.specs.Grammar.{read_node_table, numbers_from, read_nodes}
use Rattle.cpg_codec.proofs.Loop.{with_front}
use Rattle.cpg_codec.proofs.reading.nodes_of.Given as goal

-- `so_far`: the tables so far, in front of what reading the other nodes' tables gives, are what reading all of them
-- gives; `total` counts their columns. `few`: these columns are within the limit.
abbrev pub invariant-loop-node : goal.invariant-loop-node
invariant-loop-node l = record {
  so_far : with_front l.nodes.items
      (read_each (λ (c : ℕ) (t : NodeTable). c + column_count (rows_of t)) (read_node_table l.fn.head)
      (numbers_from l.node (length l.fn.head.nodes - l.node)) l.total l.unread)
      ≡ read_nodes l.fn.head l.fn.unread;
  few : l.total ≤ MOST_LOAD;
}
