-- The rows of items, with what is known of how long the items last.
use Rattle.std.specs.Prelude.{ℕ, ◌+◌, ◌≡◌, ◌≤◌, ◌<◌, ◌⊎◌, true, List, Option, All, IfSome, length, get_or}
use Rattle.cpg_base.specs.Graph.{Graph, item_count}
use Rattle.cpg_base.specs.declared.limits.TheConstants.{MOST_FAULTS}
use Rattle.cpg_base.specs.Scenario.{Scenario, IsScenario, number_of}
use Rattle.cpg_cube.specs.Column.{column_at}
use Rattle.cpg_table.specs.Table.{NodeTable, columns_of}
use Rattle.cpg_tree.specs.Space.{IsInSpace}
use Rattle.cpg_tree.specs.declared.space.Space.{Space}
use Rattle.cpg_row_trees.specs.Trees.{IsRowTree}
use Rattle.cpg_violation.specs.Always.{IsUnconditional}
use Rattle.cpg_check_quick.specs.declared.span.ItemSpan.{ItemSpan}
use Rattle.cpg_check_quick.specs.declared.spanned_rows.SpannedRow.{SpannedRow}
use Rattle.cpg_check_quick.specs.declared.spanned_rows.SpannedRows.{SpannedRows}

-- a span bounds how long an item lasts, by the number of a variable
pub record IsSpan (g : Graph) (lasts : Scenario → ℕ) (span : ItemSpan) : Type 0 where
  -- if the variable is at most `n`, the item lasts no longer than the length at `n`
  pub enough : (s : Scenario) (n : ℕ) → IsScenario g s → number_of s span.variable ≤ n → n ≤ MOST_FAULTS →
      lasts s ≤ get_or span.lengths n 0
  -- it never lasts longer than `longest`
  pub longest : (s : Scenario) → IsScenario g s → lasts s ≤ span.longest

-- an item with this span that begins at `start` is over by `time` in a scenario
pub record IsPast (span : ItemSpan) (start time : ℕ) (s : Scenario) : Type 0 where
  -- a number that the variable is at most, and for which the span has a length
  pub count : ℕ
  pub most : number_of s span.variable ≤ count
  pub known : count ≤ MOST_FAULTS
  -- with that length the item is over in time
  pub over : start + get_or span.lengths count 0 ≤ time

-- the item of a row is over by `time`: it is even if it begins by its last column and lasts longest, or it is in
-- scenario `s` if it begins by its column at `place`, or there is no place
abbrev pub IsOverAt : SpannedRow → ℕ → Option ℕ → Scenario → Type 0
IsOverAt row time place s = (row.last + row.span.longest ≤ time) ⊎
    IfSome place (λ i. IsPast row.span (column_at row.columns.now i).time time s)

-- the row is that of item `x`, which lasts as long as `lasts` says
pub record IsSpannedRow (g : Graph) (tables : List NodeTable) (lasts : Scenario → ℕ) (x : ℕ)
    (row : SpannedRow) : Type 0 where
  -- the item is one of the graph
  pub item : x < item_count g
  -- the columns are those of the item in the tables
  pub columns : row.columns.now ≡ columns_of tables x
  -- the tree, if one was made, is a tree of these columns
  pub tree : IfSome row.tree.now (IsRowTree g (columns_of tables x))
  -- no column is earlier than `first`, or later than `last`
  pub first : All (λ d. row.first ≤ d.time) (columns_of tables x)
  pub last : All (λ d. d.time ≤ row.last) (columns_of tables x)
  -- the span bounds how long the item lasts
  pub span : IsSpan g lasts row.span
  -- only an item that is active in every scenario is said to be always active
  pub always : row.is_always ≡ true → IsUnconditional g x

-- all scenarios of the graph lie in a space
pub record HasAll (g : Graph) (space : Space) : Type 0 where
  -- no scenario is left out
  pub lies : (s : Scenario) → IsScenario g s → IsInSpace space s

-- rows of the first items, as many as the list has, and a space of all scenarios
pub record AreSpannedRows (lasts : ℕ → Scenario → ℕ) (g : Graph) (tables : List NodeTable)
    (rows : SpannedRows) : Type 0 where
  -- the space leaves out no scenario of the graph
  pub everywhere : HasAll g rows.everywhere
  -- the row at `x` is that of item `x` (`d` is only the default of `get_or`)
  pub each : (x : ℕ) (d : SpannedRow) → x < length rows.list.items →
      IsSpannedRow g tables (lasts x) x (get_or rows.list.items x d)
