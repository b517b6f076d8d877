-- Loops of `cubes_of`, which returns a reference to the cube of each column, in their order.
use Rattle.std.proofs.Common.{◌≡◌, take, map}
use Rattle.cpg_cube.proofs.column.cubes_of.Given as goal

-- the list has the cubes of the columns so far
abbrev pub invariant-loop-column : goal.invariant-loop-column
invariant-loop-column l = map (λ b. b.now) l.cubes.items ≡ map (λ c. c.cube) (take l.column-index l.columns)
