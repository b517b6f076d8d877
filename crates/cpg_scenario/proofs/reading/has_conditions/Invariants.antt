-- Loops of `has_conditions`: whether each process that is given a value has a condition.
use Rattle.std.proofs.Common.{ℕ, ◌<◌, ◌≡◌, true}
use Rattle.toml.specs.View.{table_view}
use Rattle.cpg_scenario.specs.File.{may_have_value}
use Rattle.cpg_scenario.proofs.reading.has_conditions.Given as goal

-- each process so far has a condition, if the document gives it a value
abbrev pub invariant-loop-process : goal.invariant-loop-process
invariant-loop-process l = (q : ℕ) → q < l.process → may_have_value l.problem (table_view l.document) q ≡ true
