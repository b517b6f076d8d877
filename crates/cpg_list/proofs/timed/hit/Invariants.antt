-- Loops of `hit`: the place of a column that has a given time and matches in a scenario.
use Rattle.cpg_list.proofs.CodeTimes.{ArePassed}
use Rattle.cpg_list.proofs.timed.hit.Given as goal

-- the columns from the place `first` of the time order up to `at` have the time, and none of them matches
abbrev pub invariant-loop-at : goal.invariant-loop-at
invariant-loop-at l = ArePassed l.columns l.by_time l.time l.scenario l.first l.at
