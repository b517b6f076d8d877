-- Proof of `Cube::lows`, which returns the scenario in which each variable has the low of its range.
use Rattle.std.proofs.Common.{◌∙◌, get_or}
use Rattle.cpg_cube.specs.Cube.{low_in}
use Rattle.cpg_cube.proofs.Meeting.{same_scenario}
use Rattle.cpg_cube.proofs.cube.Cube.lows.Goals as goal

-- the bounds have the cube's lows, and the scenario is written from the bounds
pub returns : goal.returns
returns c = c.write_lows.ensures.lows ∙ same_scenario c.args.problem.now c.write_lows.ensures.within
    (λ v. get_or c.of.result.low v 0) (low_in c.args.self.now)
    (λ v small. rw c.literals.ensures.literals at c.of.ensures.low v small)
