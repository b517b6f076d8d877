-- The text of a node's table: the node's name, and the lines of what it starts, sends and hears.
use Rattle.std.specs.Prelude.{ℕ, List, [], ◌++◌, codes, get_or}
use Rattle.std.specs.List.{flat_map}
use Rattle.cpg_head.specs.Head.{Head}
use Rattle.cpg_table.specs.Table.{Row, NodeTable, table_at}
use Rattle.cpg_table.specs.Lawful.{Tables}
use Rattle.cpg_label.specs.Labels.{Labels, head_labels}
use Rattle.cpg_label.specs.CubeText.{columns_text}
use Rattle.cpg_label.specs.ItemText.{item_of, act_text, hear_text}

-- the lines of a row of what the node starts or sends: what is done, and a line for each column
abbrev pub act_row : Labels → Row → List ℕ
act_row labels row = act_text labels (item_of labels row.item) ++ codes "\n" ++ columns_text labels row.columns

-- the lines of a row of what the node hears: what is heard, and a line for each column
abbrev pub hear_row : Labels → Row → List ℕ
hear_row labels row = hear_text labels (item_of labels row.item) ++ codes "\n" ++ columns_text labels row.columns

-- the lines of all rows of a table, in its order: starts, sends, hears
abbrev pub rows_text : Labels → NodeTable → List ℕ
rows_text labels t =
    flat_map (act_row labels) t.starts ++ flat_map (act_row labels) t.sends ++ flat_map (hear_row labels) t.hears

-- the line of a node's name, which is empty if the head hasn't the node
abbrev pub name_line : Head → ℕ → List ℕ
name_line h node = codes "node " ++ get_or h.nodes node [] ++ codes "\n"

-- the line of the node's name, then the lines of its rows
abbrev pub node_text : Tables → ℕ → List ℕ
node_text tables node = name_line tables.head node ++ rows_text (head_labels tables.head) (table_at tables.nodes node)
