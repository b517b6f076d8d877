-- Loops of `count_with_tree`: how many first columns of a row are found, by halving, to have a tree, so that no two of
-- them match together.
use Rattle.std.proofs.Common.{ℕ, ◌-◌, ◌<◌, ◌≤◌, ◌≡◌, false, length}
use Rattle.cpg_base.specs.Scenario.{Scenario, IsScenario}
use Rattle.cpg_check_rows.specs.Single.{is_double}
use Rattle.cpg_check_rows.proofs.single.count_with_tree.Given as goal

-- `order`, `within`: `count` is at most `end`, and that at most the number of columns. `none`: no column before `count`
-- matches together with an earlier one in any scenario.
abbrev pub invariant-loop-end : goal.invariant-loop-end
invariant-loop-end l = record {
  order : l.count ≤ l.end;
  within : l.end ≤ length l.columns;
  none : (i : ℕ) (s : Scenario) → i < l.count → IsScenario l.problem s → is_double l.columns i s ≡ false;
}

-- each turn brings `count` and `end` nearer to each other
abbrev pub decreases-loop-end : goal.decreases-loop-end
decreases-loop-end l = l.end - l.count
