-- The pack of rows, one for each item by number, without their tables.
use Rattle.std.specs.Prelude.{ℕ, ◌<◌, ◌++◌, List, All, length, map}
use Rattle.std.specs.List.{flat_map}
use Rattle.cpg_base.specs.Graph.{Graph, item_count}
use Rattle.cpg_base.specs.Numbers.{numbers_below}
use Rattle.cpg_codec.specs.Spelling.{column_bytes, head_bytes, row_bytes}
use Rattle.cpg_cube.specs.declared.column.Column.{Column}
use Rattle.cpg_head.specs.GraphHead.{head_of}
use Rattle.cpg_table.specs.Items.{ItemLists, lists_of}
use Rattle.cpg_table.specs.Table.{Row}
use Rattle.cpg_table.specs.Valid.{later_by}
use Rattle.cpg_table.specs.Writing.{heard_row, row_for}

-- the bytes of columns, each later by a delay
abbrev pub later_bytes : ℕ → List Column → List ℕ
later_bytes delay columns = flat_map (λ c. column_bytes (later_by delay c)) columns

-- the bytes of the row of item x at the node that starts or sends it
abbrev pub own_bytes : List Row → ℕ → List ℕ
own_bytes rows x = row_bytes (row_for rows x)

-- the bytes of the row of item x at a node that hears it: each column is later by the sender's slot
abbrev pub heard_bytes : Graph → List Row → ℕ → List ℕ
heard_bytes g rows x = row_bytes (heard_row g rows x)

-- the bytes of the rows of a node with these items: starts, sends, hears
abbrev pub node_bytes : Graph → List Row → ItemLists → List ℕ
node_bytes g rows items = flat_map (own_bytes rows) items.starts
    ++ (flat_map (own_bytes rows) items.sends ++ flat_map (heard_bytes g rows) items.hears)

-- all items of a node are items of the graph
pub record AreItemsWithin (g : Graph) (items : ItemLists) : Type 0 where
  -- what it starts
  pub starts : All (λ x. x < item_count g) items.starts
  -- what it sends
  pub sends : All (λ x. x < item_count g) items.sends
  -- what it hears
  pub hears : All (λ x. x < item_count g) items.hears

-- for each node, what it starts, sends and hears
abbrev pub items_of_nodes : Graph → List ItemLists
items_of_nodes g = map (lists_of (head_of g)) (numbers_below (length g.nodes))

-- the bytes of the pack: the head, and the rows of each node
abbrev pub pack_bytes : Graph → List Row → List ℕ
pack_bytes g rows = head_bytes (head_of g) ++ flat_map (node_bytes g rows) (items_of_nodes g)
