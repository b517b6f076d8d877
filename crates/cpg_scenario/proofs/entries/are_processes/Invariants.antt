-- Loops of `are_processes`: whether all keys of a table are names of processes.
use Rattle.std.proofs.Common.{◌≡◌}
use Rattle.toml.specs.View.{members_view}
use Rattle.cpg_scenario.specs.File.{process_names, are_among}
use Rattle.cpg_scenario.proofs.entries.are_processes.Given as goal

-- all keys so far name processes, so what is left to say is whether the others do
abbrev pub invariant-loop-text : goal.invariant-loop-text
invariant-loop-text l = are_among (process_names l.problem) (members_view l.table.entries)
    ≡ are_among (process_names l.problem) (members_view l.text-iterator)
