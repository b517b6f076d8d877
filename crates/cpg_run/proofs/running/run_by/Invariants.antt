-- Loops of `run_by`: the run of a scenario in a setting that is made once for many.
use Rattle.cpg_run.specs.Progress.{IsAlong}
use Rattle.cpg_run.proofs.running.run_by.Given as goal

-- the progress is what is found of the scenario's run before the place that comes next
abbrev pub invariant-loop-place : goal.invariant-loop-place
invariant-loop-place l = IsAlong l.setting.problem.now l.setting.order.now l.frozen l.scenario l.place l.progress
