-- Loops of `sift_producers`: sifts the rows that V5 may ask at sends: that of the producer of each unmarked message and
-- broadcast.
use Rattle.std.proofs.Common.{ℕ}
use Rattle.cpg_violation.specs.SievedRows.{AreSievedRows}
use Rattle.cpg_check_time.proofs.asked.sift_producers.Given as goal

-- if `rows` were sieved rows of the first `count` items at first, they still are after each item
abbrev pub invariant-loop-item : goal.invariant-loop-item
invariant-loop-item l = (count : ℕ) → AreSievedRows l.tables.nodes count l.fn.rows → AreSievedRows l.tables.nodes count l.rows
