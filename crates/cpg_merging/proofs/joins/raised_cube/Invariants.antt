-- Loops of `raised_cube`, which returns a copy of the cube with `high` as the end of the variable's range.
use Rattle.std.proofs.Common.{◌≡◌, take}
use Rattle.cpg_merging.specs.Merging.{raised}
use Rattle.cpg_merging.proofs.joins.raised_cube.Given as goal

-- after each literal, the cube has the literals so far, and the one on the variable is raised to `high`
abbrev pub invariant-loop-literal : goal.invariant-loop-literal
invariant-loop-literal l = l.raised ≡ raised l.variable l.high (take l.literal-index l.literal-items)
