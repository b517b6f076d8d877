-- Proof of `least_with`: the least scenario that a cube matches and in which a literal holds.
use Rattle.std.proofs.Common.{rules, ◌≡◌, Some, subst}
use Rattle.cpg_cube.specs.Fit.{IsKnown}
use Rattle.cpg_cube.specs.Narrow.{with_literal}
use Rattle.cpg_cube.proofs.CubeLaws.{with-is}
use Rattle.cpg_cube.proofs.Narrow.{known-narrowed}
use Rattle.cpg_check_rows.proofs.ActivityLaws.{with_part}
use Rattle.cpg_check_rows.proofs.activity.least_with.Goals as goal

-- the cube stays on variables of the graph when the literal narrows it
pub least-requires : goal.least-requires
least-requires c =
    let graph = c.args.problem.now in
    let some : with_literal c.args.literal c.args.cube.now ≡ Some c.in-Some.part = search rules in
    record {
      known = subst (IsKnown graph) (with-is c.args.literal c.args.cube.now c.in-Some.part some)
          (known-narrowed graph c.args.literal c.args.cube.now c.requires.literal c.requires.cube);
    }

-- the part matches exactly where the cube does and the literal holds, so its least scenario is the answer
pub returns : goal.returns
returns c = λ order. with_part c.args.problem.now order c.args.cube.now c.args.literal c.in-Some.part
    c.in_ok-found.found (rw c.in-Some.is at c.in_ok-part.ensures.both)
    (c.in_ok-found.ensures.first order)
