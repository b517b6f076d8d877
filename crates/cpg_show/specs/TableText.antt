-- The text of tables: the order of the processes, the greatest finish, and the lines of each item.
use Rattle.std.specs.Prelude.{ℕ, Bool, true, if◌then◌else◌, List, [], ◌++◌, codes, get_or}
use Rattle.std.specs.List.{flat_map}
use Rattle.std.specs.Fmt.{decimal}
use Rattle.cpg_base.specs.Numbers.{numbers_below}
use Rattle.cpg_base.specs.Graph.{Graph, item_at, item_count, home, is_sent_item}
use Rattle.cpg_base.specs.declared.item.Item.{Item}
use Rattle.cpg_base.specs.declared.item.Item.TheVariants.{Start, Message, Broadcast}
use Rattle.cpg_table.specs.Table.{NodeTable, Row, columns_of}
use Rattle.cpg_table.specs.Writing.{row_for}
use Rattle.cpg_label.specs.Labels.{labels_of, process_name}
use Rattle.cpg_label.specs.CubeText.{columns_text}
use Rattle.cpg_label.specs.ItemText.{act_text}

-- whether an item has lines: an edge within a node isn't sent and has none, nor has a broadcast on the only node
abbrev pub is_shown_item : Graph → Item → Bool
is_shown_item g (Start p) = true
is_shown_item g (Message e) = is_sent_item g (Message e)
is_shown_item g (Broadcast c) = is_sent_item g (Broadcast c)

-- whether the item with the number x has lines
abbrev pub is_shown : Graph → ℕ → Bool
is_shown g x = is_shown_item g (item_at g x)

-- the line that says what is done with item x, and on which node
abbrev pub head_line : Graph → ℕ → List ℕ
head_line g x = act_text (labels_of g) (item_at g x) ++ codes " on " ++ get_or g.nodes (home g x) [] ++ codes "\n"

-- the lines of item x in tables; nothing if it isn't shown
abbrev pub item_text : Graph → List NodeTable → ℕ → List ℕ
item_text g tables x = if is_shown g x then head_line g x ++ columns_text (labels_of g) (columns_of tables x) else []

-- the line of the order: the word, and the names of the processes in it, each after a blank
abbrev pub order_line : Graph → List ℕ → List ℕ
order_line g order = codes "order" ++ flat_map (λ p. codes " " ++ process_name (labels_of g) p) order ++ codes "\n"

-- the line of the greatest finish, `worst`
abbrev pub worst_line : ℕ → List ℕ
worst_line worst = codes "worst " ++ decimal worst ++ codes "\n"

-- the text of tables: the order, the greatest finish, and the items by number
abbrev pub table_text : Graph → List ℕ → List NodeTable → ℕ → List ℕ
table_text g order tables worst =
    order_line g order ++ worst_line worst ++ flat_map (item_text g tables) (numbers_below (item_count g))

-- ---- the same from a row for each item, without tables

-- the lines of item x with the columns of its row; nothing if it isn't shown
abbrev pub lines_of_row : Graph → List Row → ℕ → List ℕ
lines_of_row g rows x = if is_shown g x
    then head_line g x ++ columns_text (labels_of g) (row_for rows x).columns else []

-- the text of the tables that have these rows, one for each item by number
abbrev pub text_of_rows : Graph → List ℕ → List Row → ℕ → List ℕ
text_of_rows g order rows worst =
    order_line g order ++ worst_line worst ++ flat_map (lines_of_row g rows) (numbers_below (item_count g))
