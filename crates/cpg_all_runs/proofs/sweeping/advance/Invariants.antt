-- Loops of `advance`: for each scenario, finds its run on from a place up to another that isn't before it.
use Rattle.cpg_all_runs.specs.Sweep.{AreAlong}
use Rattle.cpg_all_runs.proofs.sweeping.advance.Given as goal

-- the run of each scenario is found before the place that comes next
abbrev pub invariant-loop-place : goal.invariant-loop-place
invariant-loop-place l = AreAlong l.setting.problem.now l.setting.order.now l.frozen l.place l.scenarios l.found.items
