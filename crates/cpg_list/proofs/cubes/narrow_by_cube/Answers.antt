-- Proof of `narrow_by_cube`: narrows a cube by another one.
use Rattle.std.proofs.Common.{◌∙◌, sym, ap, subst}
use Rattle.cpg_list.specs.Narrowing.{met, IsNarrowed}
use Rattle.cpg_list.proofs.CodeCubes.{cube_narrowed}
use Rattle.cpg_list.proofs.cubes.narrow_by_cube.Goals as goal

-- the new cube is the old one met with the other, and that is narrowed by the literals that the other is of
pub returns : goal.returns
returns c k literals is = subst (IsNarrowed k literals c.args.cube.now)
    (sym (c.in_ok-narrow.ensures ∙ ap (met c.args.cube.now) c.literals.ensures.literals))
    (cube_narrowed k literals c.args.other.now c.args.cube.now is)
