-- Loops of `marks_by`, which returns at which variables some column may follow one whose total is among these, by
-- number.
use Rattle.std.proofs.Common.{map, take}
use Rattle.cpg_merging.specs.Totals.{AreMarkedBy}
use Rattle.cpg_merging.proofs.marks.marks_by.Given as goal

-- for each literal of the columns so far, its variable is marked, or no total is that of the column with the literal
-- changed
abbrev pub invariant-loop-place : goal.invariant-loop-place
invariant-loop-place l = AreMarkedBy l.sums.sorted.now l.marks (take l.place (map (λ b. b.now) l.columns))
