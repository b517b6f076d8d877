-- Loops of `set_lengths`, which sets each length that is given; before, each is the longest of its process.
use Rattle.std.proofs.Common.{ℕ, ◌<◌, ◌≤◌, ◌≡◌, true, get_or}
use Rattle.toml.specs.View.{table_view}
use Rattle.cpg_base.specs.Graph.{process_count}
use Rattle.cpg_base.specs.Duration.{duration}
use Rattle.cpg_scenario.specs.File.{count_of, length_given, length_or, is_length_if}
use Rattle.cpg_scenario.proofs.Filling.{FilledTo}
use Rattle.cpg_scenario.proofs.reading.set_lengths.Given as goal

-- `kept`: each length given so far is from 1 to the duration. `filled`: the processes so far have the length given, or
-- the duration. `full`: the processes that are left still have the duration.
abbrev pub invariant-loop-process : goal.invariant-loop-process
invariant-loop-process l = record {
  kept : (q : ℕ) → q < l.process →
      is_length_if (duration l.problem q (count_of l.problem (table_view l.document) q))
      (length_given l.problem (table_view l.document) q) ≡ true;
  filled : FilledTo (λ q. length_or (duration l.problem q (count_of l.problem (table_view l.document) q))
      (length_given l.problem (table_view l.document) q))
      (process_count l.problem) 0 l.process l.lengths;
  full : (q : ℕ) → l.process ≤ q → q < process_count l.problem →
      get_or l.lengths q 0 ≡ duration l.problem q (count_of l.problem (table_view l.document) q);
}
