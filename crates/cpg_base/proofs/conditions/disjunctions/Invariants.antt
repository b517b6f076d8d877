-- Loops of `disjunctions`: returns for each process number below 128 whether a process of this number has a
-- conditional output.
use Rattle.std.proofs.Common.{◌≡◌, length, take}
use Rattle.cpg_base.proofs.Marks.{AreMarks}
use Rattle.cpg_base.proofs.conditions.disjunctions.Given as goal

-- the processes marked are those from which an edge so far has a condition; there are 128 marks
abbrev pub invariant-loop-edge : goal.invariant-loop-edge
invariant-loop-edge l = record { marks : AreMarks l.found (take l.edge-index l.edges); long : length l.found ≡ 128 }
