-- Proof of `may_leave`: whether some scenario that a cube matches is matched by none of the cubes `told`.
use Rattle.std.specs.List.{list_any}
use Rattle.cpg_cube.specs.Cube.{matches}
use Rattle.cpg_check_heard.proofs.Untolds.{left_nowhere}
use Rattle.cpg_check_heard.proofs.hearing.may_leave.Goals as goal

-- if no scenario was found, the list leaves nothing of the cube
pub returns : goal.returns
returns c = rw c.is_some.ensures (left_nowhere c.args.admitted.now.graph c.args.admitted.now.order c.args.cube.now
    c.args.told.now c.in_ok-left.left (λ s. list_any (λ b. matches b s) c.args.told.now)
    (λ s i m t. t) c.in_ok-left.ensures)
