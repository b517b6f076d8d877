-- Proof of `Cube::narrow`, which becomes what `with` answers, and returns how to undo that; `None` exactly if `with`
-- answers `None`.
use Rattle.cpg_cube.proofs.Narrow.{rising-narrowed}
use Rattle.cpg_cube.proofs.cube.Cube.narrow.Goals as goal

-- a narrowed cube still has its literals by rising variable
pub invariant_of-self-2 : goal.invariant_of-self-2
invariant_of-self-2 c = rw (c.in_ok-narrowed.ensures.narrowed)
    (rising-narrowed c.args.literal c.self.inside.literals.items c.self.invariant)
