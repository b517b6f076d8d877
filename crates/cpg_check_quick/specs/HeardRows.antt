-- The rows of items that a node hears, and which literals their frames tell it.
use Rattle.std.specs.Prelude.{ℕ, ◌+◌, ◌≡◌, ◌≤◌, ◌<◌, ◌⊎◌, true, List, Option, None, Some, IfSome, All, Contains}
use Rattle.cpg_base.specs.Bus.{slot_length}
use Rattle.cpg_base.specs.Graph.{Graph, home, is_heard_by, item_at, item_count}
use Rattle.cpg_base.specs.Scenario.{Scenario, number_of}
use Rattle.cpg_cube.specs.declared.literal.Literal.{Literal}
use Rattle.cpg_table.specs.Heard.{exactly, frame_value}
use Rattle.cpg_table.specs.Table.{NodeTable, columns_of}
use Rattle.cpg_cube.specs.declared.column.Column.{Column}
use Rattle.cpg_cube.specs.Column.{column_at}
use Rattle.cpg_row_trees.specs.Trees.{IsRowTree}
use Rattle.cpg_check_quick.specs.declared.heard_rows.HeardRow.{HeardRow}

-- the row of an item that the node hears
pub record IsHeardRow (g : Graph) (tables : List NodeTable) (node : ℕ) (row : HeardRow) : Type 0 where
  -- the item is one of the graph
  pub item : row.item < item_count g
  -- the node hears its frames
  pub heard : is_heard_by g node (item_at g row.item) ≡ true
  -- the columns are those of the item in the tables
  pub columns : row.columns.now ≡ columns_of tables row.item
  -- the tree is made of these columns
  pub tree : IsRowTree g (columns_of tables row.item) row.tree.now
  -- a frame is there a slot of the sender after its column's time
  pub delay : row.delay ≡ slot_length g (home g row.item)
  -- if `value` is a variable, each frame carries the scenario's number of it
  pub value : IfSome row.value
      (λ v. (s : Scenario) → Contains (frame_value s (item_at g row.item)) (exactly v (number_of s v)))

-- there is a place, and the frame of the column there, which takes `delay`, has come by `time`
abbrev pub HasCome : List Column → ℕ → ℕ → Option ℕ → Type 0
HasCome columns delay time None = ⊥
HasCome columns delay time (Some i) = (column_at columns i).time + delay ≤ time

-- one of these literals implies `l`
pub record IsToldIn (literals : List Literal) (l : Literal) : Type 0 where
  -- that literal
  pub by : Literal
  -- it is one of these
  pub there : Contains literals by
  -- both literals are on one variable
  pub variable : by.variable ≡ l.variable
  -- the range of `by` lies within that of `l`
  pub low : l.low ≤ by.low
  pub high : by.high ≤ l.high

-- the frames of the columns at these places tell literal `l`: they carry `value`, and that is the variable of `l`, or
-- each of the columns implies it
abbrev pub IsTold : Option ℕ → List Column → List ℕ → Literal → Type 0
IsTold value columns places l = (value ≡ Some l.variable) ⊎ All (λ i. IsToldIn (column_at columns i).cube l) places

-- each of `wanted` is implied by one of `literals`
abbrev pub AreToldIn : List Literal → List Literal → Type 0
AreToldIn literals wanted = (l : Literal) → Contains wanted l → IsToldIn literals l
