-- Inputs of a start that aren't there by its time.
use Rattle.std.specs.Prelude.{ℕ, Bool, ◌&&◌, if◌then◌else◌, List}
use Rattle.std.specs.List.{list_any}
use Rattle.cpg_base.specs.Bus.{slot_length}
use Rattle.cpg_base.specs.Graph.{Graph, condition_of, edge_at, home, is_message, message_item, source}
use Rattle.cpg_rules.specs.Guards.{is_passed, test_of}
use Rattle.cpg_base.specs.Scenario.{Scenario}
use Rattle.cpg_cube.specs.Cube.{matches}
use Rattle.cpg_table.specs.Table.{NodeTable, columns_of}
use Rattle.cpg_cube.specs.declared.column.Column.{Column}
use Rattle.cpg_check_time.specs.Delays.{is_late}
use Rattle.cpg_check_time.specs.declared.delays.Delay.TheVariants.{Execution, Slot}

-- whether the source of edge `e` has the value that the edge asks for; true if it asks for none
abbrev pub is_asked : Graph → ℕ → Scenario → Bool
is_asked g e s = is_passed (test_of (condition_of g (source g e)) (edge_at g e).when) s.values

-- whether input `e` is there only after `time`: if it is a message, by a column of its row that matches; if not, by a
-- matching column of its source, which is on the same node and has the value that the edge asks for
abbrev pub is_input_late : Graph → List NodeTable → ℕ → ℕ → Scenario → Bool
is_input_late g tables time e s = if is_message g e
    then list_any (λ d. is_late g (Slot (slot_length g (home g (message_item g e)))) time d s)
    (columns_of tables (message_item g e))
    else is_asked g e s && list_any (λ d. is_late g (Execution (source g e)) time d s) (columns_of tables (source g e))

-- whether column `c` matches, and input `e` is there only after the column's time
abbrev pub lacks_input : Graph → List NodeTable → Column → ℕ → Scenario → Bool
lacks_input g tables c e s = matches c.cube s && is_input_late g tables c.time e s
