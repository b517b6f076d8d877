-- Rows whose columns say no more than what is carried beside their times. A builder of tables shows this of its rows,
-- and all else follows.
use Rattle.std.specs.Prelude.{ℕ, ◌≡◌, ◌≢◌, ◌≤◌, ◌<◌, List, Option, length, All, Contains, IsTrue}
use Rattle.cpg_base.specs.Graph.{Graph, process_count, item_count}
use Rattle.cpg_order.specs.Reach.{Reach, IsReach, reach_of, views}
use Rattle.cpg_base.specs.Scenario.{Scenario, IsScenario}
use Rattle.cpg_cube.specs.Cube.{matches, low_in, high_in}
use Rattle.cpg_cube.specs.Fit.{IsCube}
use Rattle.cpg_cube.specs.declared.literal.Literal.{Literal}
use Rattle.cpg_table.specs.Heard.{kept_low, kept_high}
use Rattle.cpg_merging.specs.Merged.{AreMet, AreOrdered, HaveNoWhole, AreWithin, IsMerged}
use Rattle.cpg_table.specs.Table.{NodeTable, columns_of}
use Rattle.cpg_cube.specs.declared.column.Column.{Column}
use Rattle.cpg_table.specs.declared.rule.Rule.{Rule}
use Rattle.cpg_run.specs.Exact.{IsExact}
use Rattle.cpg_run.specs.Laws.{Keeps, NothingIsLate}
use Rattle.cpg_run.specs.Supported.{Supported}
use Rattle.cpg_run.specs.Carried.{row_at, carried}
use Rattle.cpg_run.specs.RowLaws.{IsTimed, HaveTimesOf}
use Rattle.cpg_run.specs.Rows.{AreRows}

-- the cube says no more than the literals: its range of each variable contains the range that they leave
pub record ContainsKept (k : ℕ) (cube literals : List Literal) : Type 0 where
  -- the cube's low is no greater than that of the literals
  pub low : (v : ℕ) → low_in cube v ≤ kept_low literals v
  -- the cube's high is no less than that of the literals
  pub high : (v : ℕ) → kept_high k literals v ≤ high_in k cube v

-- the row of the item x has the times of the runs, and a column that matches says no more than what is carried there
pub record IsCarryingRow (g : Graph) (urgency order : List ℕ) (frozen : List (Option ℕ)) (rows : List (List Column))
    (x : ℕ) : Type 0 where
  -- in each scenario the columns that match have the one time of the run, and none matches if the item is inactive
  pub times : HaveTimesOf g order frozen x (row_at rows x)
  -- a column that matches says no more than what is carried beside the time
  pub carries : (s : Scenario) (c : Column) → IsScenario g s → Contains (row_at rows x) c → IsTrue (matches c.cube s) →
      ContainsKept g.faults c.cube (carried g order rows s x)
  -- each cube has its literals in order, on variables of the graph
  pub cubes : All (λ c. IsCube g c.cube) (row_at rows x)
  -- no literal's high is past the greatest number of its variable
  pub within : AreWithin g.faults (row_at rows x)
  -- no literal has the whole range of its variable, since it would always hold
  pub not_whole : HaveNoWhole g.faults (row_at rows x)
  -- each column matches some scenario
  pub met : AreMet g urgency (row_at rows x)
  -- the columns are in the order of the first scenarios that they match
  pub ordered : AreOrdered g urgency (row_at rows x)

-- a row for each item; in the row of a start no two columns can be merged further
pub record AreCarrying (g : Graph) (urgency order : List ℕ) (frozen : List (Option ℕ))
    (rows : List (List Column)) : Type 0 where
  -- there is a row for each item
  pub count : length rows ≡ item_count g
  -- each says no more than what is carried
  pub each : (x : ℕ) → x < item_count g → IsCarryingRow g urgency order frozen rows x
  -- the start of a process has the number of the process
  pub merged : (p : ℕ) → p < process_count g → IsMerged g (row_at rows p)

-- the tables have the columns of carrying rows
pub record AreTablesCarrying (g : Graph) (urgency order : List ℕ) (frozen : List (Option ℕ)) (rows : List (List Column))
    (tables : List NodeTable) : Type 0 where
  -- the graph is admitted, and the frozen times are its own under the order
  pub timed : IsTimed g urgency order frozen
  -- each item has a carrying row
  pub found : AreCarrying g urgency order frozen rows
  -- the columns of each item in the tables are its row
  pub columns : (x : ℕ) → columns_of tables x ≡ row_at rows x

-- what follows for tables of carrying rows: they are exact and supported, keep the rules, and have no more columns than
-- their items have views
pub record AreExactAndLawful (g : Graph) (urgency order : List ℕ) (frozen : List (Option ℕ)) (r : Reach)
    (tables : List NodeTable) : Type 0 where
  -- they have the times of the runs, in rows of one form
  pub exact : IsExact g urgency order frozen r tables
  -- their cubes have literals only on what the node has heard
  pub supported : Supported g order tables
  -- all rules but that on dues are kept in any case
  pub rules : (rule : Rule) → rule ≢ Rule.Due → Keeps rule g tables
  -- the rule on dues is kept if no run has an end past its due
  pub dues : NothingIsLate g order frozen → Keeps Rule.Due g tables
  -- fault counts are variables 0 to 127, so this needs at most 128 processes
  pub views : process_count g ≤ 128 → (x : ℕ) → x < item_count g → length (columns_of tables x) ≤ views g (reach_of r x)

-- tables of carrying rows are exact and lawful
abbrev pub CarryingTablesAreLawful : Type 0
CarryingTablesAreLawful = (g : Graph) (urgency order : List ℕ) (frozen : List (Option ℕ)) (rows : List (List Column))
    (tables : List NodeTable) (r : Reach) →
    AreTablesCarrying g urgency order frozen rows tables → IsReach g order r →
    AreExactAndLawful g urgency order frozen r tables

-- rows of merged entries are carrying rows; an entry is the column of all scenarios with the same literals (`Rows`)
abbrev pub ListedRowsCarry : Type 0
ListedRowsCarry = (g : Graph) (urgency order : List ℕ) (frozen : List (Option ℕ)) (rows : List (List Column)) →
    IsTimed g urgency order frozen → AreRows g urgency order frozen rows → AreCarrying g urgency order frozen rows
