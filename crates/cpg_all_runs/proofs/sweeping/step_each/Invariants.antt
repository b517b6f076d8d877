-- Loops of `step_each`: for each scenario, finds the times of the process at a place and of what it sends.
use Rattle.cpg_all_runs.proofs.Swept.{AreStepped}
use Rattle.cpg_all_runs.proofs.sweeping.step_each.Given as goal

-- the runs of the first `at` scenarios are found before the next place, and those of the others before this one
abbrev pub invariant-loop-at : goal.invariant-loop-at
invariant-loop-at l =
    AreStepped l.setting.problem.now l.setting.order.now l.frozen l.place l.at l.scenarios l.found.items
