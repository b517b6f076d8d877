-- The columns of an item, with what makes it quick to look for some of them.
use Rattle.std.specs.Prelude.{ℕ, ◌≡◌, ◌<◌, ◌≤◌, ◌^◌, ◌-◌, List, All, length, get_or, min, max}
use Rattle.std.specs.List.{fold}
use Rattle.cpg_table.specs.Table.{NodeTable, columns_of}
use Rattle.cpg_cube.specs.declared.column.Column.{Column}
use Rattle.cpg_violation.specs.Sieves.{IsSieveOf}
use Rattle.cpg_violation.specs.declared.sieved_rows.SievedRow.{SievedRow}

-- the least time of columns; the greatest number of 64 bits if there are none
abbrev pub first_time : List Column → ℕ
first_time columns = fold (λ time d. min time d.time) (2 ^ 64 - 1) columns

-- the greatest time of columns; 0 if there are none
abbrev pub last_time : List Column → ℕ
last_time columns = fold (λ time d. max time d.time) 0 columns

-- a row has these columns, a sieve of them, and bounds of their times
pub record IsSievedRow (columns : List Column) (row : SievedRow) : Type 0 where
  -- the columns, in their order
  pub all : row.columns.now ≡ columns
  -- the sieve finds each of the columns that matches
  pub sieve : IsSieveOf columns row.sieve
  -- no column is before `first`
  pub first : All (λ d. row.first ≤ d.time) columns
  -- no column is after `last`
  pub last : All (λ d. d.time ≤ row.last) columns

-- for each of the first `items` items a sieved row of its columns, by number (`d` is only the default of `get_or`)
pub record AreSievedRows (tables : List NodeTable) (items : ℕ) (rows : List SievedRow) : Type 0 where
  -- there is a row for each of the items
  pub count : length rows ≡ items
  -- the row at `x` is that of item `x`
  pub each : (x : ℕ) (d : SievedRow) → x < items → IsSievedRow (columns_of tables x) (get_or rows x d)
