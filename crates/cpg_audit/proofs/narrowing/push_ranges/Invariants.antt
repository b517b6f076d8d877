-- Loops of `push_ranges`: adds to a cube the space's ranges of the variables from `first` up to `end`, `end` itself left
-- out, except those ranges that have all numbers of the variable.
use Rattle.std.proofs.Common.{All}
use Rattle.cpg_audit.specs.Narrowing.{IsRange}
use Rattle.cpg_audit.proofs.narrowing.push_ranges.Given as goal

-- each literal of the cube is on one of the variables so far, and holds in all scenarios of the space
abbrev pub invariant-loop-variable : goal.invariant-loop-variable
invariant-loop-variable l = All (IsRange l.problem l.space l.variable) l.cube
