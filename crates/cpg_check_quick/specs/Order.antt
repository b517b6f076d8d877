-- Which items are always over before others begin. An item lasts as long as what it begins: an execution, a frame or a
-- send.
use Rattle.std.specs.Prelude.{ℕ, ◌+◌, ◌≡◌, ◌≤◌, ◌<◌, ◌⊎◌, true, List, Contains, length, get_or}
use Rattle.cpg_base.specs.Bus.{slot_length}
use Rattle.cpg_base.specs.Graph.{Graph, home}
use Rattle.cpg_base.specs.Duration.{duration}
use Rattle.cpg_base.specs.Scenario.{Scenario, IsScenario, fault_of}
use Rattle.cpg_cube.specs.Cube.{matches}
use Rattle.cpg_table.specs.Table.{NodeTable, columns_of}
use Rattle.cpg_cube.specs.declared.column.Column.{Column}

-- item `y`, which lasts `lasts` time units, is over by `time`, whichever of its columns matches in scenario `s`
abbrev pub IsOverBy : List NodeTable → ℕ → ℕ → ℕ → Scenario → Type 0
IsOverBy tables lasts y time s =
    (d : Column) → Contains (columns_of tables y) d → matches d.cube s ≡ true → d.time + lasts ≤ time

-- wherever a column of each matches, item `y` is over by the time of item `x`; `lasts` says how long each item lasts in
-- a scenario
abbrev pub IsOver : (ℕ → Scenario → ℕ) → Graph → List NodeTable → ℕ → ℕ → Type 0
IsOver lasts g tables y x =
    (s : Scenario) (c : Column) → IsScenario g s → Contains (columns_of tables x) c → matches c.cube s ≡ true →
    IsOverBy tables (lasts y s) y c.time s

-- by whichever of its columns matches in scenario `s`, item `y`, which lasts `lasts` time units, is over by `time`, or
-- another item, which begins at `time` and lasts `other` time units, is over by that column
abbrev pub IsApartAt : List NodeTable → ℕ → ℕ → ℕ → ℕ → Scenario → Type 0
IsApartAt tables lasts y other time s = (d : Column) → Contains (columns_of tables y) d → matches d.cube s ≡ true →
    (d.time + lasts ≤ time) ⊎ (time + other ≤ d.time)

-- wherever a column of each matches, one of items `y` and `x` is over by the time of the other; `lasts` says how long
-- each item lasts in a scenario
abbrev pub IsApart : (ℕ → Scenario → ℕ) → Graph → List NodeTable → ℕ → ℕ → Type 0
IsApart lasts g tables y x =
    (s : Scenario) (c : Column) → IsScenario g s → Contains (columns_of tables x) c → matches c.cube s ≡ true →
    IsApartAt tables (lasts y s) y (lasts x s) c.time s

-- each of these items is over by the time of each later one, wherever a column of each matches; `lasts` says how long
-- each item lasts in a scenario
abbrev pub IsInSequence : (ℕ → Scenario → ℕ) → Graph → List NodeTable → List ℕ → Type 0
IsInSequence lasts g tables items =
    (i j : ℕ) → i < j → j < length items → IsOver lasts g tables (get_or items i 0) (get_or items j 0)

-- item `first` comes before item `second` in an order
pub record StandsBefore (order : List ℕ) (first second : ℕ) : Type 0 where
  -- the places of `first` and of `second`
  pub from : ℕ
  pub to : ℕ
  -- the place of `first` is before that of `second`
  pub rising : from < to
  -- both places are in the order
  pub there : to < length order
  -- what is at the two places
  pub is_first : get_or order from 0 ≡ first
  pub is_second : get_or order to 0 ≡ second

-- how long an execution of process `p` lasts in a scenario: its duration with its faults there
abbrev pub execution : Graph → ℕ → Scenario → ℕ
execution g p s = duration g p (fault_of s p)

-- how long a frame of item `x` lasts: a slot of its node, in every scenario
abbrev pub frame : Graph → ℕ → Scenario → ℕ
frame g x s = slot_length g (home g x)

-- a send is taken to last 1, so two sends are apart exactly if they are at different times
abbrev pub sending : ℕ → Scenario → ℕ
sending x s = 1

-- wherever a column of each matches, process `q` has ended by the time of item `x`
abbrev pub IsBefore : Graph → List NodeTable → ℕ → ℕ → Type 0
IsBefore g tables q x = IsOver (execution g) g tables q x
