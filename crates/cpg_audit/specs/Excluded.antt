-- What shows that a scenario doesn't give a log: a column that matches at a time that the log excludes, or a logged
-- item that is inactive.
use Rattle.std.specs.Prelude.{ℕ, Bool, not, ◌==◌, nat_le, List, Option, None, Some, map, filter, if◌then◌else◌}
use Rattle.std.specs.List.{list_any}
use Rattle.cpg_base.specs.Graph.{Graph, item_at}
use Rattle.cpg_base.specs.Activity.{item_active}
use Rattle.cpg_cube.specs.declared.literal.Literal.{Literal}
use Rattle.cpg_base.specs.Scenario.{Scenario}
use Rattle.cpg_table.specs.Table.{NodeTable, columns_of}
use Rattle.cpg_cube.specs.declared.column.Column.{Column}
use Rattle.cpg_log.specs.Log.{Log, logged_time}
use Rattle.cpg_log.specs.declared.log.Logged.{Logged}

-- whether a log until `until` excludes that an item is due at `time`: if the item is logged, at any time but the logged
-- one; if not, at any up to the log's end
abbrev pub is_excluded : ℕ → Option ℕ → ℕ → Bool
is_excluded until None time = nat_le time until
is_excluded until (Some logged) time = not (time == logged)

-- the cubes of those of an item's columns whose times a log until `until` excludes; `logged` is when the log names the
-- item, if it does
abbrev pub excluded_cubes : ℕ → Option ℕ → List Column → List (List Literal)
excluded_cubes until logged columns = map (λ c. c.cube) (filter (λ c. is_excluded until logged c.time) columns)

-- the cubes of those columns of item `x` whose times the log excludes
abbrev pub excluded_of : List NodeTable → Log → ℕ → List (List Literal)
excluded_of tables log x = excluded_cubes log.until (logged_time log.acts x) (columns_of tables x)

-- some time if an item isn't active, and none if it is: a tree of such times has a column just where the item is
-- inactive
abbrev pub idle_time : Bool → Option ℕ
idle_time active = if active then None else Some 0

-- whether one of the logged items isn't active in a scenario
abbrev pub is_some_idle : Graph → List Logged → Scenario → Bool
is_some_idle g acts s = list_any (λ l. not (item_active g s.values (item_at g l.item))) acts
