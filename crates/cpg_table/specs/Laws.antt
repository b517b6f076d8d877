-- The laws that contracts state: what tables under the head for a graph say of the graph.
use Rattle.std.specs.Prelude.{ℕ, ◌≡◌, ◌<◌, ◌+◌, List, length, map}
use Rattle.cpg_base.specs.Graph.{Graph, process_count, edge_count}
use Rattle.cpg_base.specs.Limits.{IsWithinLimits}
use Rattle.cpg_table.specs.Table.{NodeTable, table_at}
use Rattle.cpg_table.specs.Shape.{HasShape, items_of, processes_on, heard_by}
use Rattle.cpg_head.specs.GraphHead.{head_of}
use Rattle.cpg_table.specs.Items.{own_process}
use Rattle.cpg_table.specs.Lawful.{AreTablesOf}

-- tables under the head for a graph have a row for each item that a node starts or sends, and the literals of these rows are
-- on variables of the graph
abbrev pub TablesHaveShape : Type 0
TablesHaveShape =
    (g : Graph) (tables : List NodeTable) → IsWithinLimits g → AreTablesOf (head_of g) tables → HasShape g tables

-- a node's table says of the graph what the node needs, and has a row for each item that it hears
pub record SuitsGraph (g : Graph) (node : ℕ) (t : NodeTable) : Type 0 where
  pub faults : t.faults ≡ g.faults
  -- broadcasts are numbered after the processes and the edges
  pub first_broadcast : t.first_broadcast ≡ process_count g + edge_count g
  pub own : t.own ≡ map (own_process g) (processes_on g node)
  pub hears : items_of t.hears ≡ heard_by g node

-- tables under the head for a graph say of each node what the graph says
abbrev pub TablesSuitGraph : Type 0
TablesSuitGraph =
    (g : Graph) (tables : List NodeTable) → IsWithinLimits g → AreTablesOf (head_of g) tables → (node : ℕ) →
    node < length g.nodes → SuitsGraph g node (table_at tables node)
