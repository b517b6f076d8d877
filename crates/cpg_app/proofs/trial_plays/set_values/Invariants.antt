-- Loops of `set_values`, which sets the values of all `count` conditions to true.
use Rattle.std.proofs.Common.{◌≡◌, ◌-◌, ◌++◌, true, false, replicate}
use Rattle.cpg_app.proofs.trial_plays.set_values.Given as goal

-- after each condition, the values so far are true, those left are false, and the faults have not changed
abbrev pub invariant-loop-condition : goal.invariant-loop-condition
invariant-loop-condition l = record {
  values : l.scenario.values ≡ replicate l.condition true ++ replicate (l.count - l.condition) false;
  faults : l.scenario.faults ≡ l.fn.scenario.faults;
}
