-- The rows of a graph. The scenarios in which the same literals are carried beside an item's time make one column, an
-- entry. Merged, the entries of an item are its row.
use Rattle.std.specs.Prelude.{ℕ, ◌≡◌, ◌≢◌, ◌<◌, List, Option, Some, None, length, map, get_or, Contains, AllPairs}
use Rattle.std.specs.Prelude.{IsTrue}
use Rattle.cpg_base.specs.Graph.{Graph, item_count, item_at}
use Rattle.cpg_base.specs.Activity.{item_active}
use Rattle.cpg_base.specs.Scenario.{Scenario, IsScenario}
use Rattle.cpg_cube.specs.Cube.{IsRising, low_in, high_in}
use Rattle.cpg_cube.specs.Fit.{lows}
use Rattle.cpg_cube.specs.declared.literal.Literal.{Literal}
use Rattle.cpg_table.specs.Heard.{kept_low, kept_high}
use Rattle.cpg_merging.specs.Merged.{IsMergeOf}
use Rattle.cpg_cube.specs.declared.column.Column.{Column}
use Rattle.cpg_run.specs.Run.{Times, IsRun}
use Rattle.cpg_run.specs.Carried.{row_at, carried}

-- `cube` has the ranges that the literals leave together, on no other variables than theirs
pub record IsCubeOf (k : ℕ) (literals cube : List Literal) : Type 0 where
  -- its literals are in the order of their variables
  pub rising : IsRising cube
  -- each of its literals is on a variable of theirs
  pub spoken : (l : Literal) → Contains cube l → (m : Literal) × Contains literals m × (m.variable ≡ l.variable)
  -- the low of each variable is the greatest of their lows
  pub low : (v : ℕ) → low_in cube v ≡ kept_low literals v
  -- the high of each variable is the least of their highs
  pub high : (v : ℕ) → high_in k cube v ≡ kept_high k literals v

-- `e` is the entry of the item x for the scenario s, in which it is active: its time there, and the cube of what is
-- carried beside it
pub record IsEntryIn (g : Graph) (order : List ℕ) (frozen : List (Option ℕ)) (rows : List (List Column)) (x : ℕ)
    (s : Scenario) (e : Column) : Type 0 where
  -- s is a scenario of the graph, in which x is active
  pub lawful : IsScenario g s
  pub active : IsTrue (item_active g s.values (item_at g x))
  -- the entry has the time of x in the run of s, and the cube of what is carried beside it
  pub time : (t : Times) → IsRun g order frozen s t → get_or t.times x None ≡ Some e.time
  pub cube : IsCubeOf g.faults (carried g order rows s x) e.cube

-- The entries of the item x. All scenarios that an entry's cube matches have the same entry, so it is taken once, for the
-- least of them, which is `lows` of the cube.
pub record AreEntriesOf (g : Graph) (order : List ℕ) (frozen : List (Option ℕ)) (rows : List (List Column)) (x : ℕ)
    (entries : List Column) : Type 0 where
  -- each is the entry for the least scenario of its cube
  pub each : (e : Column) → Contains entries e → IsEntryIn g order frozen rows x (lows g e.cube) e
  -- no two have the same least scenario
  pub apart : AllPairs (λ d e. lows g d.cube ≢ lows g e.cube) entries
  -- each scenario that is the least of its entry's cube has one
  pub all : (s : Scenario) (e : Column) → IsEntryIn g order frozen rows x s e → lows g e.cube ≡ s →
      Contains (map (λ d. lows g d.cube) entries) s

-- the row of the item x: its entries, merged
pub record IsRowOf (g : Graph) (urgency order : List ℕ) (frozen : List (Option ℕ)) (rows : List (List Column))
    (x : ℕ) : Type 0 where
  -- the entries of x
  pub entries : List Column
  -- these are the entries of the item
  pub are : AreEntriesOf g order frozen rows x entries
  -- the row is made of them by merging
  pub merge : IsMergeOf g urgency entries (row_at rows x)

-- a row for each item; what is carried beside its times is found in the rows of items from earlier processes
pub record AreRows (g : Graph) (urgency order : List ℕ) (frozen : List (Option ℕ))
    (rows : List (List Column)) : Type 0 where
  -- there is a row for each item
  pub count : length rows ≡ item_count g
  -- each is the row of its item
  pub each : (x : ℕ) → x < item_count g → IsRowOf g urgency order frozen rows x
