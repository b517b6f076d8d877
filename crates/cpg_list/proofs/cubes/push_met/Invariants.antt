-- Loops of `push_met`: adds to a cube the literals of two cubes in the order of their variables; of two literals on one
-- variable it adds what both allow.
use Rattle.std.proofs.Common.{◌≡◌, ◌++◌, ◌+◌, length}
use Rattle.cpg_cube.specs.Cube.{IsRising}
use Rattle.cpg_list.specs.Narrowing.{met}
use Rattle.cpg_list.proofs.cubes.push_met.Given as goal

-- `first`, `second`: the variables of what is left of each cube rise. `all`: the cube so far and then what is left of the
-- two, met, are the old cube and then the two whole cubes, met.
abbrev pub invariant-loop-one : goal.invariant-loop-one
invariant-loop-one l = record {
  first : IsRising l.ones;
  second : IsRising l.others;
  all : l.fn.cube ++ met l.first l.second ≡ l.cube ++ met l.ones l.others;
}

-- each turn takes a literal from one of the two or from both
abbrev pub decreases-loop-one : goal.decreases-loop-one
decreases-loop-one l = length l.ones + length l.others
