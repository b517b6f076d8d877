-- V10, row by row: which node hears an item by other columns than the sender's, each later by the sender's slot.
use Rattle.std.specs.Prelude.{ℕ, ◌≡◌, ◌≢◌, ◌<◌, List, Some, length, take, slice_get, IfSome, IsSomeAnd}
use Rattle.cpg_base.specs.Graph.{Graph, item_count}
use Rattle.cpg_base.specs.Scenario.{zero_scenario}
use Rattle.cpg_table.specs.Table.{NodeTable, table_at}
use Rattle.cpg_cube.specs.declared.column.Column.{Column}
use Rattle.cpg_table.specs.Valid.{hear_row, hear_rows}
use Rattle.cpg_table.specs.Rules.{number_of_rule}
use Rattle.cpg_table.specs.declared.fault.Fault.{Fault}
use Rattle.cpg_table.specs.declared.rule.Rule.{Rule}
use Rattle.cpg_table.specs.Found.{row_columns}

-- `i` is the first place at which two lists differ; if one list begins with the other, it is the length of the shorter
pub record DifferFirstAt (xs ys : List Column) (i : ℕ) : Type 0 where
  -- the lists are the same up to the place
  pub before : take i xs ≡ take i ys
  -- at the place they differ, or only one of them has an element
  pub here : slice_get xs i ≢ slice_get ys i

-- if the node has a hear row of item `x`, the row has these columns
abbrev pub HearsAt : List NodeTable → ℕ → List Column → ℕ → Type 0
HearsAt tables x columns node = IfSome (row_columns (table_at tables node).hears x) (λ cs. cs ≡ columns)

-- one of the first `nodes` nodes hears item `x` by other columns than these, and at the least such node `place` is the
-- first place at which its columns differ from these
pub record IsFirstHear (tables : List NodeTable) (nodes x : ℕ) (columns : List Column) (place : ℕ) : Type 0 where
  -- that node
  pub node : ℕ
  -- it is one of the first `nodes` nodes
  pub within : node < nodes
  -- all nodes before it hear the item by these columns, if they hear it
  pub earlier : (m : ℕ) → m < node → HearsAt tables x columns m
  -- it has a row of the item, which first differs at this place
  pub differ : IsSomeAnd (row_columns (table_at tables node).hears x) (λ cs. DifferFirstAt cs columns place)

-- the columns by which item `x` is to be heard: the sender's, each later by the sender's slot
abbrev pub due_columns : Graph → List NodeTable → ℕ → List Column
due_columns g tables x = (hear_row g tables x).columns

-- each node that hears item `x` hears it by the columns that are due
abbrev pub IsHeardWell : Graph → List NodeTable → ℕ → Type 0
IsHeardWell g tables x = (node : ℕ) → node < length g.nodes → HearsAt tables x (due_columns g tables x) node

-- V10 holds: each node has the hear rows that are due
abbrev pub HearsHold : Graph → List NodeTable → Type 0
HearsHold g tables = (node : ℕ) (t : NodeTable) → slice_get tables node ≡ Some t → t.hears ≡ hear_rows g tables node

-- the fault is the first violation of V10: at the least item that some node hears by other columns than are due, the
-- first column that differs at the least such node
pub record IsFirstHearFault (g : Graph) (tables : List NodeTable) (f : Fault) : Type 0 where
  -- the fault is one of V10
  pub number : f.rule ≡ number_of_rule Rule.Hears
  -- the item is one of the graph
  pub item : f.item < item_count g
  -- the rule is about rows, whatever the scenario, so the first of all is shown
  pub scenario : f.scenario ≡ zero_scenario g
  -- no item before it breaks the rule
  pub items : (x : ℕ) → x < f.item → IsHeardWell g tables x
  -- the column that it names is the first that differs at the least node that hears the item by other columns
  pub column : IsSomeAnd f.column (IsFirstHear tables (length g.nodes) f.item (due_columns g tables f.item))
