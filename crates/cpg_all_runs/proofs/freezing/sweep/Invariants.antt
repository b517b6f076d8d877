-- Loops of `sweep`: the times of the frozen items under an order, given these items along the order and scenarios that
-- show all runs.
use Rattle.std.proofs.Common.{ℕ, ◌≤◌, ◌<◌, length, get_or}
use Rattle.cpg_all_runs.specs.Sweep.{AreAlong, place_of_item}
use Rattle.cpg_run.proofs.Settled.{AreSettled}
use Rattle.cpg_all_runs.proofs.freezing.sweep.Given as goal

-- `settled`: the frozen items so far have their frozen times. `along`: the run of each scenario is found before the place.
-- `ahead`: no frozen item that is left comes from a process before the place.
abbrev pub invariant-loop-item : goal.invariant-loop-item
invariant-loop-item l = record {
  settled : AreSettled l.setting.problem.now l.setting.order.now l.items l.item-index l.frozen;
  along : AreAlong l.setting.problem.now l.setting.order.now l.frozen l.place l.scenarios l.found.items;
  ahead : (j : ℕ) → l.item-index ≤ j → j < length l.items →
      l.place ≤ place_of_item l.setting.problem.now l.setting.order.now (get_or l.items j 0);
}
