-- The columns of a row in the order of their times, by which the code searches them.
use Rattle.std.specs.Prelude.{ℕ, ◌≡◌, ◌<◌, ◌≤◌, true, false, List, Option, None, Some, length, get_or}
use Rattle.cpg_base.specs.Scenario.{Scenario}
use Rattle.cpg_cube.specs.Cube.{matches}
use Rattle.cpg_cube.specs.declared.column.Column.{Column}
pub use Rattle.cpg_list.specs.declared.timed.TimedColumn.{TimedColumn}

-- `by_time` has for each column its time and its place in the row, in the order of times
pub record IsTimeOrder (columns : List Column) (by_time : List TimedColumn) : Type 0 where
  -- no time is less than one before it
  pub rising : (i j : ℕ) (d : TimedColumn) → i ≤ j → j < length by_time →
      (get_or by_time i d).time ≤ (get_or by_time j d).time
  -- each timed column has the place and the time of a column
  pub each : (i : ℕ) (d : TimedColumn) (c : Column) → i < length by_time →
      ((get_or by_time i d).place < length columns) ×
      ((get_or columns (get_or by_time i d).place c).time ≡ (get_or by_time i d).time)
  -- each column is one of the timed columns
  pub all : (k : ℕ) (c : Column) → k < length columns →
      (i : ℕ) × (i < length by_time) × ((d : TimedColumn) → ((get_or by_time i d).place ≡ k) ×
      ((get_or by_time i d).time ≡ (get_or columns k c).time))

-- the timed columns before the place `at` are those with times less than `time`
pub record StartsAt (by_time : List TimedColumn) (time at : ℕ) : Type 0 where
  -- the place is one of the list, or its end
  pub inside : at ≤ length by_time
  -- those before it are earlier
  pub before : (i : ℕ) (d : TimedColumn) → i < at → (get_or by_time i d).time < time
  -- the others are not
  pub after : (i : ℕ) (d : TimedColumn) → at ≤ i → i < length by_time → time ≤ (get_or by_time i d).time

-- the column at the place k has this time and matches in the scenario
abbrev pub IsHit : List Column → ℕ → Scenario → ℕ → Type 0
IsHit columns time s k = (c : Column) → k < length columns →
    ((get_or columns k c).time ≡ time) × (matches (get_or columns k c).cube s ≡ true)

-- the option is the place of a column that has this time and matches in the scenario, and None if there is none
abbrev pub FindsHit : List Column → ℕ → Scenario → Option ℕ → Type 0
FindsHit columns time s None = (k : ℕ) (c : Column) → k < length columns → (get_or columns k c).time ≡ time →
    matches (get_or columns k c).cube s ≡ false
FindsHit columns time s (Some k) = (k < length columns) × IsHit columns time s k
