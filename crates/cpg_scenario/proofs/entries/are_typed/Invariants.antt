-- Loops of `are_typed`: whether all entries of a table are booleans, if `flags` is true, or integers, if it is
-- false.
use Rattle.std.proofs.Common.{◌≡◌}
use Rattle.toml.specs.View.{members_view}
use Rattle.cpg_scenario.specs.File.{are_typed}
use Rattle.cpg_scenario.proofs.entries.are_typed.Given as goal

-- all values so far have the table's type, so what is left to say is whether the others have
abbrev pub invariant-loop-value : goal.invariant-loop-value
invariant-loop-value l =
    are_typed l.flags (members_view l.table.entries) ≡ are_typed l.flags (members_view l.value-iterator)
