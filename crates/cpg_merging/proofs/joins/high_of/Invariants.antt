-- Loops of `high_of`, which returns the greatest number that the literals allow a variable; the top of its whole range
-- if none is on it.
use Rattle.std.proofs.Common.{◌≡◌, drop}
use Rattle.cpg_cube.specs.Cube.{high_in}
use Rattle.cpg_merging.proofs.joins.high_of.Given as goal

-- no literal so far is on the variable, so its high is found among the literals that are left
abbrev pub invariant-loop-literal : goal.invariant-loop-literal
invariant-loop-literal l =
    high_in l.faults l.literals l.variable ≡ high_in l.faults (drop l.literal-index l.literals) l.variable
