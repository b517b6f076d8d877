-- What several rows tell a node together.
use Rattle.std.specs.Prelude.{ℕ, Bool, ◌&&◌, ◌==◌, List}
use Rattle.std.specs.List.{list_any}
use Rattle.cpg_base.specs.Graph.{Graph, node_of, process_of_variable}
use Rattle.cpg_base.specs.Scenario.{Scenario}
use Rattle.cpg_table.specs.Table.{NodeTable, columns_of}
use Rattle.cpg_check_heard.specs.declared.bound.LiteralBound.{LiteralBound}
use Rattle.cpg_check_heard.specs.Bounds.{variable_of}
use Rattle.cpg_check_heard.specs.TellingRows.{row_tells, means_of}

-- whether the row of item `x` tells a bound by `time`
abbrev pub item_tells : Graph → List NodeTable → ℕ → LiteralBound → Scenario → ℕ → Bool
item_tells g tables time b s x = row_tells g (means_of g x) time b (columns_of tables x) s

-- whether the row of one of these items tells a bound by `time`
abbrev pub are_told_by : Graph → List NodeTable → ℕ → LiteralBound → List ℕ → Scenario → Bool
are_told_by g tables time b items s = list_any (item_tells g tables time b s) items

-- whether an end on the node itself tells a bound by `time`: one of the variable's process, if that is on the node
abbrev pub own_tells : Graph → List NodeTable → ℕ → ℕ → LiteralBound → Scenario → Bool
own_tells g tables node time b s = (node_of g (process_of_variable g (variable_of b)) == node)
    && item_tells g tables time b s (process_of_variable g (variable_of b))
