-- Merged rows: no two columns of one time differ in one variable alone and touch there, and the columns stand by the
-- least scenario that each matches.
use Rattle.std.specs.Prelude.{ℕ, ◌≡◌, ◌<◌, ◌≤◌, false, List, length, slice_get, Some, IsTrue, All, Contains}
use Rattle.cpg_base.specs.Graph.{Graph}
use Rattle.cpg_base.specs.Scenario.{Scenario, IsScenario, IsLeast, is_before}
use Rattle.cpg_cube.specs.declared.literal.Literal.{Literal}
use Rattle.cpg_cube.specs.Cube.{matches, low_in, high_in, is_whole, DifferAt}
use Rattle.cpg_base.specs.Variable.{top}
use Rattle.cpg_cube.specs.Fit.{IsCube}
use Rattle.cpg_cube.specs.declared.column.Column.{Column}
use Rattle.cpg_cube.specs.Column.{times_in}

-- s is the first scenario along the order that the column matches
abbrev pub IsLeastMatch : Graph → List ℕ → Column → Scenario → Type 0
IsLeastMatch g order c s = IsLeast g order (λ t. IsTrue (matches c.cube t)) s

-- c is the column at place i
abbrev pub IsColumn : List Column → ℕ → Column → Type 0
IsColumn columns i c = slice_get columns i ≡ Some c

-- each column has a least scenario that it matches
abbrev pub AreMet : Graph → List ℕ → List Column → Type 0
AreMet g order columns = All (λ c. (s : Scenario) × IsLeastMatch g order c s) columns

-- the columns stand by the least scenario that each matches
abbrev pub AreOrdered : Graph → List ℕ → List Column → Type 0
AreOrdered g order columns =
    (i j : ℕ) (c d : Column) (s t : Scenario) → i < j → IsColumn columns i c → IsColumn columns j d →
    IsLeastMatch g order c s → IsLeastMatch g order d t → IsTrue (is_before g order s t)

-- no literal of a column has the whole range of its variable, which would say nothing
abbrev pub HaveNoWhole : ℕ → List Column → Type 0
HaveNoWhole k columns = All (λ c. All (λ l. is_whole k l ≡ false) c.cube) columns

-- no literal of a column goes past the greatest number of its variable
abbrev pub AreWithin : ℕ → List Column → Type 0
AreWithin k columns = All (λ c. All (λ l. l.high ≤ top k l.variable) c.cube) columns

-- no two columns have one time and cubes that differ in one variable v alone and touch or overlap there
abbrev pub IsMerged : Graph → List Column → Type 0
IsMerged g columns = (i j v : ℕ) (c d : Column) → i < j → IsColumn columns i c → IsColumn columns j d →
    c.time ≡ d.time → DifferAt g.faults c.cube d.cube v → ⊥

-- the first cube allows each variable all that the second allows
abbrev pub IsWider : ℕ → List Literal → List Literal → Type 0
IsWider k a b = (v : ℕ) → (low_in a v ≤ low_in b v) × (high_in k b v ≤ high_in k a v)

-- columns that may be merged
pub record AreMergeable (g : Graph) (columns : List Column) : Type 0 where
  -- the literals of each column are on variables of the graph, in rising order
  pub cubes : All (λ c. IsCube g c.cube) columns
  -- no literal of a column goes past the greatest number of its variable
  pub within : AreWithin g.faults columns
  -- each column matches some scenario of the graph
  pub met : All (λ c. (s : Scenario) × IsScenario g s × IsTrue (matches c.cube s)) columns
  -- no scenario is matched by two of them
  pub apart : (s : Scenario) → IsScenario g s → length (times_in columns s) ≤ 1

-- `columns` are the entries, merged: in every scenario they have the same times, and no two of them can be made one
pub record IsMergeOf (g : Graph) (order : List ℕ) (entries columns : List Column) : Type 0 where
  -- in each scenario the columns have the same times as the entries
  pub times : (s : Scenario) → IsScenario g s → times_in columns s ≡ times_in entries s
  -- a column allows all that an entry allows if some scenario matches both
  pub wider : (s : Scenario) (e c : Column) → IsScenario g s → Contains entries e → Contains columns c →
      IsTrue (matches e.cube s) → IsTrue (matches c.cube s) → IsWider g.faults c.cube e.cube
  -- the literals of each column are on variables of the graph, in rising order
  pub cubes : All (λ c. IsCube g c.cube) columns
  -- no literal of a column goes past the greatest number of its variable
  pub within : AreWithin g.faults columns
  -- no literal of a column has the whole range of its variable
  pub not_whole : HaveNoWhole g.faults columns
  -- each column matches some scenario of the graph
  pub met : AreMet g order columns
  -- the columns stand by the least scenario that each matches
  pub ordered : AreOrdered g order columns
  -- no two columns can be made one
  pub merged : IsMerged g columns
  -- a literal of a column is on a variable of which some entry that matches together with it has a literal
  pub spoken : (c : Column) (l : Literal) → Contains columns c → Contains c.cube l →
      (s : Scenario) × (e : Column) × (m : Literal) × IsScenario g s × Contains entries e × IsTrue (matches e.cube s) ×
      IsTrue (matches c.cube s) × Contains e.cube m × (m.variable ≡ l.variable)
