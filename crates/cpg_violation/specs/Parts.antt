-- The places that a cut leaves on its two sides.
use Rattle.std.specs.Prelude.{ℕ, ◌≡◌, ◌<◌, true, false, List, Contains, length, nat_le}
use Rattle.cpg_base.specs.Scenario.{Scenario, number_of}
use Rattle.cpg_cube.specs.Cube.{matches}
use Rattle.cpg_cube.specs.declared.column.Column.{Column}
use Rattle.cpg_cube.specs.Column.{column_at}
use Rattle.cpg_violation.specs.declared.sieve.SieveSides.{SieveSides}

-- the sides of a cut lose no place that a scenario needs; a place may be on both
pub record ArePartsOf (columns : List Column) (places : List ℕ) (sides : SieveSides) : Type 0 where
  -- the low side has each of `places` whose column matches a scenario in which the variable is at most the cut's number
  pub low : (s : Scenario) (i : ℕ) → Contains places i → i < length columns →
      matches (column_at columns i).cube s ≡ true →
      nat_le (number_of s sides.cut.variable) sides.cut.most ≡ true → Contains sides.low.items i
  -- the high side has each of `places` whose column matches a scenario in which the variable is above the cut's number
  pub high : (s : Scenario) (i : ℕ) → Contains places i → i < length columns →
      matches (column_at columns i).cube s ≡ true →
      nat_le (number_of s sides.cut.variable) sides.cut.most ≡ false → Contains sides.high.items i
