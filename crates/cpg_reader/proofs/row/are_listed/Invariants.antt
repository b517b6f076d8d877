-- Loops of `are_listed`: whether all keys of a table are among these.
use Rattle.std.proofs.Common.{◌≡◌}
use Rattle.toml.specs.View.{members_view}
use Rattle.cpg_reader.specs.Rows.{are_listed}
use Rattle.cpg_reader.proofs.row.are_listed.Given as goal

-- all keys so far are listed, so what is left to say is whether the others are
abbrev pub invariant-loop-text : goal.invariant-loop-text
invariant-loop-text l =
    are_listed l.keys (members_view l.members.entries) ≡ are_listed l.keys (members_view l.text-iterator)
