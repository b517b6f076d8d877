-- Loops of `slot_tables`, which returns a table for each slot.
use Rattle.std.proofs.Common.{◌≡◌, take, map}
use Rattle.toml.specs.Data.{table}
use Rattle.toml.specs.View.{view}
use Rattle.cpg_reader.specs.WrittenTree.{slot_members}
use Rattle.cpg_reader.proofs.writing.slot_tables.Given as goal

-- after each slot, the list has the table of each slot so far
abbrev pub invariant-loop-slot : goal.invariant-loop-slot
invariant-loop-slot l =
    map view l.made.items ≡ map (λ s. table (slot_members l.problem.nodes s)) (take l.slot-index l.slot-items)
