-- Loops of `ordered_by_time`: the times and places of columns, by time.
use Rattle.cpg_list.proofs.CodeTimes.{AreTimes}
use Rattle.cpg_list.proofs.timed.ordered_by_time.Given as goal

-- each column so far is there with its time and its place
abbrev pub invariant-loop-place : goal.invariant-loop-place
invariant-loop-place l = AreTimes l.columns l.place l.by_time.items
