-- Loops of `push_cubes`: adds the cubes of these columns to `by`.
use Rattle.std.proofs.Common.{◌≡◌, ◌++◌, map, take}
use Rattle.cpg_audit.proofs.auditing.push_cubes.Given as goal

-- after each column, the list has what it had at first, and then the cube of each column so far
abbrev pub invariant-loop-column : goal.invariant-loop-column
invariant-loop-column l =
    map (λ b. b.now) l.by.items ≡ map (λ b. b.now) l.fn.by.items ++ map (λ c. c.cube) (take l.column-index l.columns)
