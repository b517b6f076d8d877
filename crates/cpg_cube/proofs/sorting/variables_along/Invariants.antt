-- Loops of `variables_along`, which returns the variables along an order: for each process that of its fault count, and
-- then that of its condition's value if it has a condition.
use Rattle.std.proofs.Common.{◌≡◌, ◌++◌, drop}
use Rattle.cpg_cube.specs.Keys.{variables_along}
use Rattle.cpg_cube.proofs.sorting.variables_along.Given as goal

-- the variables found and those of the processes still to come are all the variables along the order
abbrev pub invariant-loop-process : goal.invariant-loop-process
invariant-loop-process l =
    variables_along l.problem l.order ≡ l.variables.items ++ variables_along l.problem (drop l.process-index l.order)
