-- Loops of `excess`: how far an end is past its due at most, by the ends of the processes and the greatest of each.
use Rattle.cpg_tree_columns.specs.Peaks.{EndsPast, IsPeak}
use Rattle.cpg_tree_columns.specs.Tops.{HasFrom}
use Rattle.cpg_tree_columns.proofs.measuring.excess.Given as goal

-- after each process gone over, `peak` is the peak of the ends past their due that the processes so far have, of
-- those that aren't under the bar
abbrev pub invariant-loop-process : goal.invariant-loop-process
invariant-loop-process l = IsPeak l.problem l.urgency l.process (HasFrom l.bar (EndsPast l.problem l.ends)) l.peak
