-- The one time of a frozen item.
use Rattle.std.specs.Prelude.{ℕ, if◌then◌else◌, List, Option, None, find, option_map}
use Rattle.cpg_base.specs.Graph.{Graph, is_frozen}
use Rattle.cpg_table.specs.Table.{NodeTable, columns_of}
use Rattle.cpg_cube.specs.declared.column.Column.{Column}
use Rattle.cpg_table.specs.Valid.{is_possible}

-- the time of the first column that matches in any scenario, if there is one
abbrev pub possible_time : Graph → List Column → Option ℕ
possible_time g columns = option_map (λ c. c.time) (find (is_possible g) columns)

-- the time that a frozen item has to have: that of its first column that matches in any scenario, if there is one;
-- `None` for an item that isn't frozen
abbrev pub frozen_time : Graph → List NodeTable → ℕ → Option ℕ
frozen_time g tables x = if is_frozen g x then possible_time g (columns_of tables x) else None
