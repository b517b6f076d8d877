-- Loops of `low_of`, which returns the least number that the literals allow a variable; 0 if none is on it.
use Rattle.std.proofs.Common.{◌≡◌, drop}
use Rattle.cpg_cube.specs.Cube.{low_in}
use Rattle.cpg_merging.proofs.joins.low_of.Given as goal

-- no literal so far is on the variable, so its low is found among the literals that are left
abbrev pub invariant-loop-literal : goal.invariant-loop-literal
invariant-loop-literal l = low_in l.literals l.variable ≡ low_in (drop l.literal-index l.literals) l.variable
