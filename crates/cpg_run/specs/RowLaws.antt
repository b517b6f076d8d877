-- The laws of rows: what is carried beside a time decides the time, so entries and their rows have the times of the runs.
use Rattle.std.specs.Prelude.{ℕ, ◌≡◌, ◌≢◌, ◌<◌, false, List, [], Option, None, get_or, option_to_list, All, IsTrue}
use Rattle.cpg_base.specs.Graph.{Graph, item_count, item_at, producer}
use Rattle.cpg_base.specs.Activity.{item_active}
use Rattle.cpg_order.specs.Urgency.{IsTopological}
use Rattle.cpg_base.specs.Order.{place}
use Rattle.cpg_base.specs.Scenario.{Scenario, IsScenario}
use Rattle.cpg_cube.specs.Cube.{matches}
use Rattle.cpg_cube.specs.Fit.{IsCube}
use Rattle.cpg_merging.specs.Merged.{AreMergeable}
use Rattle.cpg_cube.specs.declared.column.Column.{Column}
use Rattle.cpg_cube.specs.Column.{times_in}
use Rattle.cpg_run.specs.Alike.{Admitted}
use Rattle.cpg_run.specs.Frozen.{AreFrozenTimes}
use Rattle.cpg_run.specs.Run.{Times, IsRun}
use Rattle.cpg_run.specs.Carried.{row_at, carried}
use Rattle.cpg_run.specs.Rows.{AreEntriesOf, AreRows}

-- an admitted graph, its urgency order, an order of its processes, and the frozen times under that order
pub record IsTimed (g : Graph) (urgency order : List ℕ) (frozen : List (Option ℕ)) : Type 0 where
  -- the graph is admitted, with these two orders
  pub admitted : Admitted g urgency order
  -- the frozen times are those of the graph under the order
  pub frozen_times : AreFrozenTimes g order frozen

-- in every scenario the columns that match have just the time of the item x in the run, and none matches if it has none
abbrev pub HaveTimesOf : Graph → List ℕ → List (Option ℕ) → ℕ → List Column → Type 0
HaveTimesOf g order frozen x columns = (s : Scenario) (t : Times) → IsScenario g s → IsRun g order frozen s t →
    times_in columns s ≡ option_to_list (get_or t.times x None)

-- the item y comes from a process at a place below the bound
abbrev pub IsEarlier : Graph → List ℕ → ℕ → ℕ → Type 0
IsEarlier g order bound y = (y < item_count g) × (place order (producer g y) < bound)

-- two lists of rows agree on the items from processes at places below the bound
abbrev pub SameRowsBefore : Graph → List ℕ → ℕ → List (List Column) → List (List Column) → Type 0
SameRowsBefore g order bound rows others = (y : ℕ) → IsEarlier g order bound y → row_at rows y ≡ row_at others y

-- the rows of the items from processes at places below the bound have cubes of the graph, and the times of the runs
pub record AreRowsBefore (g : Graph) (order : List ℕ) (frozen : List (Option ℕ)) (bound : ℕ)
    (rows : List (List Column)) : Type 0 where
  -- each of these rows has cubes of the graph
  pub cubes : (y : ℕ) → IsEarlier g order bound y → All (λ c. IsCube g c.cube) (row_at rows y)
  -- each of these rows has the times of the runs
  pub times : (y : ℕ) → IsEarlier g order bound y → HaveTimesOf g order frozen y (row_at rows y)

-- the rows of the items from processes before the producer of x have cubes of the graph, and the times of the runs
abbrev pub AreRowsFor : Graph → List ℕ → List (Option ℕ) → ℕ → List (List Column) → Type 0
AreRowsFor g order frozen x rows = AreRowsBefore g order frozen (place order (producer g x)) rows

-- the item x is active in the scenario u too, with the same time as in s, and the same is carried there
pub record IsSameIn (g : Graph) (order : List ℕ) (frozen : List (Option ℕ)) (rows : List (List Column)) (x : ℕ)
    (s u : Scenario) : Type 0 where
  -- the item is active in u
  pub active : IsTrue (item_active g u.values (item_at g x))
  -- it has the same time in the runs t of s and w of u
  pub time : (t w : Times) → IsRun g order frozen s t → IsRun g order frozen u w →
      get_or t.times x None ≡ get_or w.times x None
  -- the same is carried beside its time in both
  pub carried : carried g order rows u x ≡ carried g order rows s x

-- what is carried beside a time is found in the rows of items from earlier processes alone
abbrev pub CarriedRestsOnEarlier : Type 0
CarriedRestsOnEarlier =
    (g : Graph) (order : List ℕ) (rows others : List (List Column)) (s : Scenario) (x : ℕ) → IsTopological g order →
    x < item_count g → SameRowsBefore g order (place order (producer g x)) rows others →
    carried g order rows s x ≡ carried g order others s x

-- what is carried beside a time decides it: in any other scenario in which those literals hold, the item is active and
-- has the same time
abbrev pub CarriedDecides : Type 0
CarriedDecides = (g : Graph) (urgency order : List ℕ) (frozen : List (Option ℕ)) (rows : List (List Column))
    (s u : Scenario) (x : ℕ) →
    IsTimed g urgency order frozen →
    x < item_count g → AreRowsFor g order frozen x rows → IsScenario g s → IsScenario g u →
    IsTrue (item_active g s.values (item_at g x)) → IsTrue (matches (carried g order rows s x) u) →
    IsSameIn g order frozen rows x s u

-- the entries of an item can be merged, and have the times of the runs
abbrev pub EntriesHaveTimes : Type 0
EntriesHaveTimes = (g : Graph) (urgency order : List ℕ) (frozen : List (Option ℕ)) (rows : List (List Column)) (x : ℕ)
    (entries : List Column) →
    IsTimed g urgency order frozen →
    x < item_count g → AreRowsFor g order frozen x rows → AreEntriesOf g order frozen rows x entries →
    AreMergeable g entries ×
    HaveTimesOf g order frozen x entries

-- rows of merged entries have the times of the runs, and the row of an item that is never active has no column
abbrev pub RowsHaveTimes : Type 0
RowsHaveTimes = (g : Graph) (urgency order : List ℕ) (frozen : List (Option ℕ)) (rows : List (List Column)) →
    IsTimed g urgency order frozen → AreRows g urgency order frozen rows → (x : ℕ) →
    HaveTimesOf g order frozen x (row_at rows x)
    × (((s : Scenario) → IsScenario g s → item_active g s.values (item_at g x) ≡ false) → row_at rows x ≡ [])
