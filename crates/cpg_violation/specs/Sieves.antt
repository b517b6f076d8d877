-- Sieves: places of columns, parted so that the leaf of a scenario has the place of each column that matches in it.
use Rattle.std.specs.Prelude.{ℕ, ◌≡◌, ◌<◌, Bool, true, ◌&&◌, nat_lt, nat_le, if◌then◌else◌, List, Contains, length}
use Rattle.cpg_base.specs.Scenario.{Scenario, number_of}
use Rattle.cpg_cube.specs.Cube.{matches}
use Rattle.cpg_cube.specs.declared.literal.Literal.{Literal}
use Rattle.cpg_cube.specs.declared.column.Column.{Column}
use Rattle.cpg_cube.specs.Column.{column_at}
use Rattle.cpg_violation.specs.Parted.{Parted, Leaf, Cut}

-- whether two ranges have a number in common
abbrev pub touch : Literal → Literal → Bool
touch l m = nat_le l.low m.high && nat_le m.low l.high

-- the places at the leaf of a scenario: at each cut its number of the variable says which side it goes to
abbrev pub places_in : Parted → Scenario → List ℕ
places_in (Leaf places) s = places
places_in (Cut v most below above) s = if nat_le (number_of s v) most then places_in below s else places_in above s

-- whether there is a column at place `i` and it matches in the scenario
abbrev pub is_at : List Column → Scenario → ℕ → Bool
is_at columns s i = nat_lt i (length columns) && matches (column_at columns i).cube s

-- each of `places` whose column matches in a scenario is at the leaf of that scenario
pub record Sifts (columns : List Column) (places : List ℕ) (parted : Parted) : Type 0 where
  pub found : (s : Scenario) (i : ℕ) → Contains places i → i < length columns →
      matches (column_at columns i).cube s ≡ true →
      Contains (places_in parted s) i

-- the place of each column that matches in a scenario is at the leaf of that scenario
pub record IsSieveOf (columns : List Column) (parted : Parted) : Type 0 where
  pub found : (s : Scenario) (i : ℕ) → i < length columns → matches (column_at columns i).cube s ≡ true →
      Contains (places_in parted s) i
