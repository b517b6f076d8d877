-- Loops of `Bounds::write_values`, which writes the value of each condition to `least`: true if the low of its variable
-- is above 0.
use Rattle.std.proofs.Common.{◌≡◌, ◌<◌, ℕ, get_or, length, false}
use Rattle.std.specs.Prelude.{nat_lt}
use Rattle.cpg_base.specs.Graph.{value_variable}
use Rattle.cpg_cube.proofs.bounds.Bounds.write_values.Given as goal

-- a condition so far is true exactly if its low is above 0; the faults are as before
abbrev pub invariant-loop-condition : goal.invariant-loop-condition
invariant-loop-condition l = record {
  faults : l.least.faults ≡ l.fn.least.faults;
  long : length l.least.values ≡ l.conditions;
  written : (c : ℕ) → c < l.condition →
      get_or l.least.values c false ≡ nat_lt 0 (get_or l.self.low (value_variable c) 0);
}
