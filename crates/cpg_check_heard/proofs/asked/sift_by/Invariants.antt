-- Loops of `sift_by`: sifts the rows of those of some items whose first columns are no later than a time.
use Rattle.std.proofs.Common.{ℕ}
use Rattle.cpg_violation.specs.SievedRows.{AreSievedRows}
use Rattle.cpg_check_heard.proofs.asked.sift_by.Given as goal

-- if `rows` were sieved rows of the first `count` items at first, they still are after each item
abbrev pub invariant-loop-item : goal.invariant-loop-item
invariant-loop-item l = (count : ℕ) → AreSievedRows l.tables.nodes count l.fn.rows → AreSievedRows l.tables.nodes count l.rows
