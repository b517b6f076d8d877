-- Loops of `set_values`, which sets the value of each condition to the given one, or to false if none is given.
use Rattle.std.proofs.Common.{◌≡◌, false, unwrap_or}
use Rattle.toml.specs.View.{table_view}
use Rattle.cpg_base.specs.Graph.{condition_count, process_of}
use Rattle.cpg_scenario.specs.File.{value_given}
use Rattle.cpg_scenario.proofs.Filling.{FilledTo}
use Rattle.cpg_scenario.proofs.reading.set_values.Given as goal

-- `filled`: the conditions so far have their given values in the scenario, or false. `faults`: its faults are as
-- before.
abbrev pub invariant-loop-condition : goal.invariant-loop-condition
invariant-loop-condition l = record {
  filled : FilledTo (λ c. unwrap_or (value_given l.problem (table_view l.document) (process_of l.problem c)) false)
      (condition_count l.problem) false l.condition l.scenario.values;
  faults : l.scenario.faults ≡ l.fn.scenario.faults;
}
