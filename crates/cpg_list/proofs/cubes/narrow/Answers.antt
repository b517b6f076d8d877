-- Proof of `narrow`: narrows a cube by literals in the order of their variables.
use Rattle.std.proofs.Common.{◌++◌, sym, ap₂, subst}
use Rattle.cpg_cube.specs.Cube.{IsRising}
use Rattle.cpg_list.specs.Narrowing.{met}
use Rattle.cpg_list.proofs.CodeCubes.{rising_met}
use Rattle.cpg_list.proofs.cubes.narrow.Goals as goal

-- the variables of two cubes met rise, as those of each do, and nothing is added before them, as the new cube is empty
pub push_met-requires-clause-both : goal.push_met-requires-clause-both
push_met-requires-clause-both c =
    subst IsRising (ap₂ (λ xs ys. xs ++ met ys c.args.literals.now) (sym c.whole-narrowed.ensures)
    (sym c.literals.ensures.literals))
    (rising_met c.args.cube.now c.args.literals.now c.literals.ensures.rising)
