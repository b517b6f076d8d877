-- Loops of `sift_heard`: sifts the rows that V4 may ask at items at which it isn't marked as sure.
use Rattle.std.proofs.Common.{ℕ}
use Rattle.cpg_violation.specs.SievedRows.{AreSievedRows}
use Rattle.cpg_check_heard.proofs.asked.sift_heard.Given as goal

-- if `rows` were sieved rows of the first `count` items at first, they still are after each node
abbrev pub invariant-loop-node : goal.invariant-loop-node
invariant-loop-node l = (count : ℕ) → AreSievedRows l.tables.nodes count l.fn.rows → AreSievedRows l.tables.nodes count l.rows
