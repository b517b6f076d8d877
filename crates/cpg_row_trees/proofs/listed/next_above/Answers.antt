-- Proof of `next_above`: whether there is a cube at `place`, it is above a cut, and its literals before that are those
-- of the cube at `from`.
use Rattle.std.proofs.Common.{take, List, ◌∙◌, ap, sym}
use Rattle.cpg_cube.specs.declared.literal.Literal.{Literal}
use Rattle.cpg_tree.proofs.Passes.{of_true}
use Rattle.cpg_row_trees.proofs.PlaceHintLaws.{cube_here, within_lent}
use Rattle.cpg_row_trees.proofs.listed.next_above.Goals as goal

-- the cube at the place is there and its first literals are those of the other, as both were looked up
pub returns : goal.returns
returns c =
    -- the cube that was looked up is the one at its place in the list
    let look = c.in-Some.ensures.lookup in
    let other = c.in-Some-get.ensures.lookup in
    let front = λ (ls : List Literal). take c.args.part.depth ls in
    of_true c.is_next.result c.is_next.ensures (λ same. record {
      there = within_lent c.args.cubes.now c.args.place c.in-Some.cube.now look.3.0 look.1;
      same = ap front (cube_here c.args.cubes.now c.args.place c.in-Some.cube.now look.3.0 look.1)
          ∙ ap front (sym c.literals.ensures.literals) ∙ same ∙ ap front c.literals-2.ensures.literals ∙
          ap front (sym (cube_here c.args.cubes.now c.args.from c.in-Some-get.other.now other.3.0 other.1));
    })
