-- Loops of `sift_lower`: sifts the rows of the items from `from` up to `item`, this one left out, that may clash with
-- `item`.
use Rattle.std.proofs.Common.{ℕ}
use Rattle.cpg_violation.specs.SievedRows.{AreSievedRows}
use Rattle.cpg_check_time.proofs.asked.sift_lower.Given as goal

-- if `rows` were sieved rows of the first `count` items at first, they still are after each other item
abbrev pub invariant-loop-other : goal.invariant-loop-other
invariant-loop-other l = (count : ℕ) → AreSievedRows l.tables.nodes count l.fn.rows → AreSievedRows l.tables.nodes count l.rows
