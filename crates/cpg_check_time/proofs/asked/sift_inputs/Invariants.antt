-- Loops of `sift_inputs`: sifts the rows that V5 may ask at starts: those of what the inputs of each unmarked process
-- come by.
use Rattle.std.proofs.Common.{ℕ}
use Rattle.cpg_violation.specs.SievedRows.{AreSievedRows}
use Rattle.cpg_check_time.proofs.asked.sift_inputs.Given as goal

-- if `rows` were sieved rows of the first `count` items at first, they still are after each edge
abbrev pub invariant-loop-edge : goal.invariant-loop-edge
invariant-loop-edge l = (count : ℕ) → AreSievedRows l.tables.nodes count l.fn.rows → AreSievedRows l.tables.nodes count l.rows
