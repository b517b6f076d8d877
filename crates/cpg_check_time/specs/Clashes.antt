-- How columns of two items clash: by executions that overlap, or by two sends at one time.
use Rattle.std.specs.Prelude.{ℕ, ◌+◌, Bool, ◌&&◌, ◌==◌, List}
use Rattle.std.specs.List.{list_any}
use Rattle.cpg_base.specs.Duration.{duration}
use Rattle.cpg_base.specs.Graph.{Graph, home, is_sent, node_of}
use Rattle.cpg_base.specs.Scenario.{Scenario, fault_of}
use Rattle.cpg_cube.specs.Cube.{matches}
use Rattle.cpg_table.specs.Table.{NodeTable, columns_of}
use Rattle.cpg_cube.specs.declared.column.Column.{Column}
use Rattle.cpg_table.specs.Valid.{overlap}

-- whether column `c` of process `p` and column `d` of process `q` both match, and the executions that they start
-- overlap
abbrev pub overlaps : Graph → ℕ → Column → ℕ → Column → Scenario → Bool
overlaps g p c q d s = matches c.cube s && (matches d.cube s
    && overlap c.time (c.time + duration g p (fault_of s p)) d.time (d.time + duration g q (fault_of s q)))

-- whether process `q` is on the node of `p`, and the execution that one of its columns starts overlaps that of column
-- `c` of `p`
abbrev pub overlaps_some : Graph → List NodeTable → ℕ → Column → ℕ → Scenario → Bool
overlaps_some g tables p c q s =
    (node_of g q == node_of g p) && list_any (λ d. overlaps g p c q d s) (columns_of tables q)

-- whether both columns match, and they have one time
abbrev pub shares : Column → Column → Scenario → Bool
shares c d s = matches c.cube s && (matches d.cube s && (d.time == c.time))

-- whether item `y` is sent by the node of item `x`, and one of its columns matches together with column `c` of `x`, at
-- the same time
abbrev pub shares_some : Graph → List NodeTable → ℕ → Column → ℕ → Scenario → Bool
shares_some g tables x c y s =
    (is_sent g y && (home g y == home g x)) && list_any (λ d. shares c d s) (columns_of tables y)
