-- Proof of `fewest_of_apart`, which returns a lower bound of the faults of scenarios that none of the cubes matches:
-- the sum over some cubes that have no variable in common, chosen in the order of the list.
use Rattle.std.proofs.Common.{◌∙◌, sym, arith}
use Rattle.cpg_cover.specs.Fewest.{AreMore}
use Rattle.cpg_cover.proofs.FewestLaws.{marked_all, marked_more, one_is_off}
use Rattle.cpg_cover.proofs.fewest.fewest_of_apart.Goals as goal
use Rattle.cpg_cover.proofs.fewest.fewest_of_apart.Goals.{then-least_faults-gt0+then-are_all, else-least_faults-gt0}

-- the next cube shares no variable with those counted and adds what it needs, or is left out
pub loop-cube-preserved : goal.loop-cube-preserved
loop-cube-preserved c =
    let cubes = c.args.cubes.now in
    let index = c.loop-cube.cube-index in
    let item = c.cube-item.result in
    let marks = c.loop-cube.marks in
    let invariant = c.loop-cube.invariant in
    elim c.if-least_faults-gt0.branch [
      -- the cube shares no variable with those counted, and is counted
      | then-least_faults-gt0+then-are_all w ↦
          let sum = w.saturating_add-sum.ensures in
          let later = w.mark_all.new.marks in
          let more : AreMore item marks later = rw w.literals-then-are_all.ensures.literals at w.mark_all.ensures in
          rw (w.marks-is, w.sum-is) (marked_more cubes item marks later c.loop-cube.sum c.fewest_of_cube-least_faults.result
          w.saturating_add-sum.result invariant
          (λ n off. rw c.cube-item.is (one_is_off cubes index item (omega arith) n off))
          c.fewest_of_cube-least_faults.ensures
          (rw w.literals.ensures.literals at (sym w.are_all.ensures ∙ w.if-are_all.true)) more.kept
          more.marked (omega arith))
      -- the cube shares a variable with those counted, or asks for no fault, and is left out
      | else-least_faults-gt0 w ↦ rw (w.marks-is, w.sum-is) invariant
    ]

-- the faults of the marked variables are at most all faults
pub returns : goal.returns
returns c = marked_all c.args.cubes.now c.loop-cube.marks c.loop-cube.sum c.loop-cube.invariant
