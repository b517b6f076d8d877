-- Loops of `sift_starts`: sifts the rows that V6 may ask: for each unmarked process those of lower processes with which
-- it may clash.
use Rattle.std.proofs.Common.{ℕ}
use Rattle.cpg_violation.specs.SievedRows.{AreSievedRows}
use Rattle.cpg_check_time.proofs.asked.sift_starts.Given as goal

-- if `rows` were sieved rows of the first `count` items at first, they still are after each item
abbrev pub invariant-loop-item : goal.invariant-loop-item
invariant-loop-item l = (count : ℕ) → AreSievedRows l.tables.nodes count l.fn.rows → AreSievedRows l.tables.nodes count l.rows
