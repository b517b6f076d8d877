-- Loops of `add_told`: adds to `told` for each of these columns the part of its cube in which it tells a bound by a
-- time, if there is one.
use Rattle.std.proofs.Common.{◌≡◌, ◌||◌, All, take}
use Rattle.std.specs.List.{list_any}
use Rattle.cpg_base.specs.Scenario.{Scenario, IsScenario}
use Rattle.cpg_cube.specs.Cube.{matches}
use Rattle.cpg_cube.specs.Fit.{IsKnown}
use Rattle.cpg_check_heard.specs.Arrivals.{do_tell}
use Rattle.cpg_check_heard.proofs.arrivals.add_told.Given as goal

-- After each arrival. `known`: the cubes in `told` are on variables of the graph. `told`: a scenario matches one of
-- them exactly if it matches one that was there at first, or an arrival so far tells the bound in it.
abbrev pub invariant-loop-arrival : goal.invariant-loop-arrival
invariant-loop-arrival l = record {
  known : All (IsKnown l.problem) l.told.items;
  told : (s : Scenario) → IsScenario l.problem s → list_any (λ b. matches b s) l.told.items ≡
      (list_any (λ b. matches b s) l.fn.told.items
      || do_tell l.problem l.time l.bound (take l.arrival-index l.arrivals) s);
}
