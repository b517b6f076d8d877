-- Loops of `set_faults`, which sets the fault count of each process to the given one, or to 0.
use Rattle.std.proofs.Common.{ℕ, ◌+◌, ◌<◌, ◌≡◌, true, sum_by}
use Rattle.toml.specs.View.{table_view}
use Rattle.cpg_base.specs.Numbers.{numbers_below}
use Rattle.cpg_base.specs.Graph.{process_count}
use Rattle.cpg_scenario.specs.File.{count_given, count_of, is_natural}
use Rattle.cpg_scenario.proofs.Filling.{FilledTo}
use Rattle.cpg_scenario.proofs.reading.set_faults.Given as goal

-- `natural`: the counts so far aren't below 0. `total`: they and `left` together are the budget. `filled`: the processes
-- so far have their counts in the scenario. `values`: its values are as before.
abbrev pub invariant-loop-process : goal.invariant-loop-process
invariant-loop-process l = record {
  natural : (q : ℕ) → q < l.process → is_natural (count_given l.problem (table_view l.document) q) ≡ true;
  total : l.left + sum_by (count_of l.problem (table_view l.document)) (numbers_below l.process) ≡ l.problem.faults;
  filled : FilledTo (count_of l.problem (table_view l.document))
      (process_count l.problem) 0 l.process l.scenario.faults;
  values : l.scenario.values ≡ l.fn.scenario.values;
}
