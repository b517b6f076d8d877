-- Which rows a table may have under a head, and which tables are those of a node.
use Rattle.std.specs.Prelude.{ℕ, ◌≡◌, ◌+◌, ◌^◌, ◌≤◌, ◌<◌, ◌⊎◌, List, ◌++◌, length, count_by, sum_by, All}
use Rattle.cpg_base.specs.declared.limits.TheConstants.{MOST_COLUMNS, MOST_LOAD}
use Rattle.cpg_cube.specs.Cube.{IsRising}
use Rattle.cpg_cube.specs.declared.literal.Literal.{Literal}
use Rattle.cpg_head.specs.Head.{Head, IsHead}
use Rattle.cpg_table.specs.Table.{Row, NodeTable, table_at}
use Rattle.cpg_cube.specs.declared.column.Column.{Column}
use Rattle.cpg_table.specs.Shape.{items_of}
use Rattle.cpg_table.specs.Items.{first_broadcast, starts_of, sends_of, hears_of, own_of}
use Rattle.cpg_table.specs.declared.space.VariableSpace.{VariableSpace}

-- the variables that there are under a head, and the greatest fault count
abbrev pub space_of : Head → VariableSpace
space_of h =
    record { faults = h.faults; processes = length h.processes; conditions = count_by (λ p. p.condition) h.processes }

-- a literal on the fault count of a process: its range has some of the numbers from 0 to the greatest count, but not all
-- (`part`)
pub record IsCountLiteral (s : VariableSpace) (l : Literal) : Type 0 where
  -- it is on the fault count of a process of the head
  pub known : l.variable < s.processes
  -- its range isn't empty
  pub some : l.low ≤ l.high
  pub within : l.high ≤ s.faults
  -- a range up to the greatest count doesn't begin at 0
  pub part : l.high ≡ s.faults → 0 < l.low

-- a literal on the value of a condition, whose range is one value: 0 or 1
pub record IsValueLiteral (s : VariableSpace) (l : Literal) : Type 0 where
  -- values have the variables from 128 on
  pub value : 128 ≤ l.variable
  -- it is on the value of a condition of the head
  pub known : l.variable < 128 + s.conditions
  pub one : l.low ≡ l.high
  pub within : l.high ≤ 1

-- a literal on a variable that there is, with a range that leaves out some of its numbers
abbrev pub IsLawfulLiteral : VariableSpace → Literal → Type 0
IsLawfulLiteral s l = IsCountLiteral s l ⊎ IsValueLiteral s l

-- a column with a time below 2^60 and lawful literals, whose variables rise
pub record IsLawfulColumn (s : VariableSpace) (c : Column) : Type 0 where
  pub time : c.time < 2 ^ 60
  pub literals : All (IsLawfulLiteral s) c.cube
  pub rising : IsRising c.cube

-- a row of not too many columns, each lawful
pub record IsLawfulRow (s : VariableSpace) (row : Row) : Type 0 where
  pub few : length row.columns ≤ MOST_COLUMNS
  pub columns : All (IsLawfulColumn s) row.columns

-- the lawful rows of a node: those of what it starts, then of what it sends, then of what it hears
pub record AreRowsOf (h : Head) (node : ℕ) (rows : List Row) : Type 0 where
  pub items : items_of rows ≡ starts_of h node ++ (sends_of h node ++ hears_of h node)
  pub lawful : All (IsLawfulRow (space_of h)) rows

-- all rows of a table, in the order of a pack
abbrev pub rows_of : NodeTable → List Row
rows_of t = t.starts ++ (t.sends ++ t.hears)

-- the table of a node under a head: it says of the head what the node needs, and has a lawful row for each of its items
pub record IsTableOf (h : Head) (node : ℕ) (t : NodeTable) : Type 0 where
  -- what the node needs to know of the head
  pub faults : t.faults ≡ h.faults
  pub first_broadcast : t.first_broadcast ≡ first_broadcast h
  pub own : t.own ≡ own_of h node
  -- a row for each of its items, in their order
  pub starts : items_of t.starts ≡ starts_of h node
  pub sends : items_of t.sends ≡ sends_of h node
  pub hears : items_of t.hears ≡ hears_of h node
  -- all rows have lawful columns, and not too many
  pub lawful : All (IsLawfulRow (space_of h)) (rows_of t)

-- a table of some node under some lawful head
pub record IsTable (t : NodeTable) : Type 0 where
  pub head : Head
  pub node : ℕ
  pub lawful : IsHead head
  pub of : IsTableOf head node t

-- how many columns rows have
abbrev pub column_count : List Row → ℕ
column_count rows = sum_by (λ row. length row.columns) rows

-- a table for each node of a head, and not too many columns in all tables together
pub record AreTablesOf (h : Head) (tables : List NodeTable) : Type 0 where
  pub count : length tables ≡ length h.nodes
  -- the table at each place is that of this node
  pub each : (node : ℕ) → node < length h.nodes → IsTableOf h node (table_at tables node)
  pub few : sum_by (λ t. column_count (rows_of t)) tables ≤ MOST_LOAD

-- a head and the tables of its nodes
pub record Tables : Type 0 where
  pub head : Head
  pub nodes : List NodeTable
