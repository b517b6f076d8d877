-- Loops of `are_top_keys`: whether each key of a document may stand at the top of a scenario file.
use Rattle.std.proofs.Common.{◌≡◌}
use Rattle.toml.specs.View.{members_view}
use Rattle.cpg_scenario.specs.File.{top_keys, are_among}
use Rattle.cpg_scenario.proofs.entries.are_top_keys.Given as goal

-- all keys so far are top keys, so what is left to say is whether the others are
abbrev pub invariant-loop-text : goal.invariant-loop-text
invariant-loop-text l =
    are_among top_keys (members_view l.document.entries) ≡ are_among top_keys (members_view l.text-iterator)
