-- Columns of frames that a node hears, and what they tell it.
use Rattle.std.specs.Prelude.{ℕ, ◌≡◌, Bool, true, All, List}
use Rattle.std.specs.List.{list_any}
use Rattle.cpg_base.specs.Graph.{Graph}
use Rattle.cpg_base.specs.Scenario.{Scenario}
use Rattle.cpg_cube.specs.Cube.{matches}
use Rattle.cpg_cube.specs.Fit.{IsKnown}
use Rattle.cpg_cube.specs.declared.literal.Literal.{Literal}
use Rattle.cpg_table.specs.Table.{NodeTable}
use Rattle.cpg_check_heard.specs.declared.arrivals.Arrival.{Arrival}
use Rattle.cpg_check_heard.specs.declared.bound.LiteralBound.{LiteralBound}
use Rattle.cpg_check_heard.specs.TellingRows.{CanTell, is_telling}
use Rattle.cpg_check_heard.specs.Untold.{are_told_by}

-- whether one of these columns matches, and its frame tells a bound by a time
abbrev pub do_tell : Graph → ℕ → LiteralBound → List Arrival → Scenario → Bool
do_tell g time b arrivals s = list_any (λ a. is_telling g a.means time b s a.column.now) arrivals

-- a column on variables of the graph, by means that can tell each bound
pub record IsArrival (g : Graph) (a : Arrival) : Type 0 where
  -- the column's literals are on variables of the graph
  pub known : IsKnown g a.column.now.cube
  -- its means can tell each bound
  pub can : (b : LiteralBound) → CanTell g b a.means

-- where a cube matches, these columns tell just what the whole rows of the items tell by the time
pub record AreArrivals (g : Graph) (tables : List NodeTable) (time : ℕ) (cube : List Literal) (items : List ℕ)
    (arrivals : List Arrival) : Type 0 where
  -- each is a column of the graph whose means can tell each bound
  pub each : All (IsArrival g) arrivals
  -- a bound is told by the columns if and only if the rows of the items tell it
  pub told : (b : LiteralBound) (s : Scenario) → matches cube s ≡ true →
      do_tell g time b arrivals s ≡ are_told_by g tables time b items s
