-- Columns and rows that fit the fields of a pack, also when they are heard later by a slot.
use Rattle.std.specs.Prelude.{◌^◌, ◌<◌, ◌≤◌, All, length}
use Rattle.cpg_base.specs.declared.limits.TheConstants.{MOST_COLUMNS}
use Rattle.cpg_cube.specs.declared.column.Column.{Column}
use Rattle.cpg_table.specs.Table.{Row}

-- a column whose number of literals fits a byte, and whose time stays below 2^60 when it is later by a slot, which is
-- shorter than 2^59
pub record IsPackable (c : Column) : Type 0 where
  -- the time is below 2^59, so that it is below 2^60 a slot later
  pub time : c.time < 2 ^ 59
  -- the number of literals fits a byte
  pub short : length c.cube ≤ 255

-- a row of such columns, whose number fits two bytes
pub record IsPackableRow (row : Row) : Type 0 where
  -- the number of columns fits two bytes
  pub few : length row.columns ≤ MOST_COLUMNS
  -- each column fits
  pub columns : All IsPackable row.columns
