-- How many instants a node may still come to.
use Rattle.std.specs.Prelude.{ℕ, ◌+◌, ◌*◌, if◌then◌else◌, List, ◌∷◌, ◌++◌, Option, is_some, filter, length}
use Rattle.std.specs.List.{flat_map}
use Rattle.cpg_node.specs.Dispatcher.{Dispatcher, is_after, possible_ends, times_in, zip_with}
use Rattle.cpg_node.specs.Plan.{fixed_times}

-- how many of these times are after the last turn
abbrev pub left_of : Option ℕ → List ℕ → ℕ
left_of last times = length (filter (is_after last) times)

-- the times of a table's columns; before the first turn, 0 is one more
abbrev pub planned_times : Dispatcher → List ℕ
planned_times d = if is_some d.last then fixed_times d.table else 0 ∷ fixed_times d.table

-- the times at which running executions may end
abbrev pub end_times : Dispatcher → List ℕ
end_times d = flat_map (λ ends. ends) (zip_with possible_ends d.table.own d.running)

-- the times after the last turn of the columns of what a node sends and starts
abbrev pub entries_left : Dispatcher → List ℕ
entries_left d = filter (is_after d.last) (times_in (d.table.sends ++ d.table.starts))

-- A bound on how many instants a node may still come to: those of its table, the possible ends of what runs, and those
-- of what its entries may still start. An execution may end at 9 times at most, with 0 to 8 faults.
abbrev pub instants_left : Dispatcher → ℕ
instants_left d = left_of d.last (planned_times d) + left_of d.last (end_times d) + length (entries_left d) * 9
