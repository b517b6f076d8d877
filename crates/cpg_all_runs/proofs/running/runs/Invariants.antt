-- Loops of `runs`: the run of each scenario of a list, in its order, given the result of `first_alike` for the list.
use Rattle.cpg_all_runs.specs.Runs.{AreFirstRuns}
use Rattle.cpg_all_runs.proofs.running.runs.Given as goal

-- the runs so far are those of the first `at` scenarios
abbrev pub invariant-loop-at : goal.invariant-loop-at
invariant-loop-at l = AreFirstRuns l.admitted.graph l.order l.frozen l.at l.scenarios l.runs.items
