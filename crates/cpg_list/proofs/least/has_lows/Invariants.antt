-- Loops of `has_lows`: whether each of the variables from `first` up to `end`, which it leaves out, has in a scenario
-- the least number that the literals allow.
use Rattle.std.proofs.Common.{◌≡◌, ℕ, ◌<◌, ◌≤◌}
use Rattle.cpg_base.specs.Scenario.{number_of}
use Rattle.cpg_cube.specs.Cube.{IsRising, low_in}
use Rattle.cpg_list.specs.Narrowing.{as_number}
use Rattle.cpg_list.proofs.least.has_lows.Given as goal

-- `rising`, `later`: the literals that are left rise, and have the lows of all literals from `variable` on. `so_far`:
-- each variable before has in the scenario the least number that the literals allow.
abbrev pub invariant-loop-variable : goal.invariant-loop-variable
invariant-loop-variable l = record {
  rising : IsRising l.rest;
  later : (w : ℕ) → l.variable ≤ w → low_in l.rest w ≡ low_in l.literals w;
  so_far : (v : ℕ) → l.first ≤ v → v < l.variable → number_of l.scenario v ≡ as_number v (low_in l.literals v);
}
