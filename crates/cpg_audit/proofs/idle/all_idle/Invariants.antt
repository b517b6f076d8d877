-- Loops of `all_idle`: columns that match just in the scenarios in which some item of these acts isn't active.
use Rattle.std.proofs.Common.{◌≡◌, All, take}
use Rattle.std.specs.List.{list_any}
use Rattle.cpg_base.specs.Scenario.{Scenario, IsScenario}
use Rattle.cpg_cube.specs.Cube.{matches}
use Rattle.cpg_cube.specs.Fit.{IsKnown}
use Rattle.cpg_audit.specs.Excluded.{is_some_idle}
use Rattle.cpg_audit.proofs.idle.all_idle.Given as goal

-- After each act. `known`: all columns are on variables of the graph. `idle`: in each scenario one of them matches
-- exactly if the item of one of the acts so far is inactive.
abbrev pub invariant-loop-act : goal.invariant-loop-act
invariant-loop-act l = record {
  known : All (λ c. IsKnown l.admitted.graph c.cube) l.all.items;
  idle : (s : Scenario) → IsScenario l.admitted.graph s →
      list_any (λ c. matches c.cube s) l.all.items ≡ is_some_idle l.admitted.graph (take l.act-index l.acts) s;
}
