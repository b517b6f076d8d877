-- Items that break V3.
use Rattle.std.specs.Prelude.{ℕ, Bool, not, ◌&&◌, List}
use Rattle.std.specs.List.{list_any}
use Rattle.cpg_base.specs.Graph.{Graph, item_at}
use Rattle.cpg_base.specs.Activity.{item_active}
use Rattle.cpg_base.specs.Scenario.{Scenario}
use Rattle.cpg_cube.specs.Cube.{matches}
use Rattle.cpg_cube.specs.declared.column.Column.{Column}

-- whether none of these columns matches in a scenario
abbrev pub has_none : List Column → Scenario → Bool
has_none columns s = not (list_any (λ d. matches d.cube s) columns)

-- whether item `x`, which has these columns, breaks V3 in a scenario: it is active, and none of them matches
abbrev pub is_absent : Graph → List Column → ℕ → Scenario → Bool
is_absent g columns x s = item_active g s.values (item_at g x) && has_none columns s
