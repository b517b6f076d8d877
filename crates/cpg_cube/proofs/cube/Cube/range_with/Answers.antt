-- Proof of `Cube::range_with`, which does what `range_left` does, without a search if the variable is above all others.
use Rattle.std.proofs.Common.{◌<◌, All, sym}
use Rattle.cpg_cube.specs.Cube.{Literal}
use Rattle.cpg_cube.proofs.Above.{range_above}
use Rattle.cpg_cube.proofs.cube.Cube.range_with.Goals as goal

-- no literal of the cube is on this variable, so the literal keeps its range
pub returns-then-is_above : goal.returns-then-is_above
returns-then-is_above c =
    let under : All (λ (l : Literal). l.variable < c.args.literal.variable) c.args.self.now =
    rw c.literals.ensures.literals at c.if-is_above.ensures in
    sym (range_above c.args.literal c.args.self.now under)
