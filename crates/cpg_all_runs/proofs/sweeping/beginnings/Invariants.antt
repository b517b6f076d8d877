-- Loops of `beginnings`: for each of these scenarios, progress with nothing known of its run.
use Rattle.cpg_all_runs.proofs.Swept.{AreBeginnings}
use Rattle.cpg_all_runs.proofs.sweeping.beginnings.Given as goal

-- there is one progress for each turn of the loop so far, with nothing found of a run
abbrev pub invariant-loop : goal.invariant-loop
invariant-loop l = AreBeginnings l.problem l.counter l.found.items
