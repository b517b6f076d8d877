-- Loops of `add_row`: adds to `told` for each column of a row that may match together with a cube the part in which it
-- tells a bound by a time.
use Rattle.std.proofs.Common.{◌≡◌, ◌||◌, All, take}
use Rattle.std.specs.List.{list_any}
use Rattle.cpg_base.specs.Scenario.{Scenario, IsScenario}
use Rattle.cpg_cube.specs.Cube.{matches}
use Rattle.cpg_cube.specs.Fit.{IsKnown}
use Rattle.cpg_check_heard.specs.TellingRows.{is_telling_at}
use Rattle.cpg_check_heard.proofs.parts.add_row.Given as goal

-- After each place. `known`: the cubes in `told` are on variables of the graph. `told`: a scenario matches one of them
-- exactly if it matches one that was there at first, or the column at one of the places so far tells the bound in it.
abbrev pub invariant-loop-place : goal.invariant-loop-place
invariant-loop-place l = record {
  known : All (IsKnown l.problem) l.told.items;
  told : (s : Scenario) → IsScenario l.problem s → list_any (λ b. matches b s) l.told.items ≡
      (list_any (λ b. matches b s) l.fn.told.items
      || list_any (is_telling_at l.problem l.row.means l.time l.bound l.row.sieved.now.columns.now s)
      (take l.place-index l.place-items));
}
