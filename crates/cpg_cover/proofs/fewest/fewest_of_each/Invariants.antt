-- Loops of `fewest_of_each`, which returns a lower bound of the faults of scenarios that none of the cubes matches: the
-- greatest that one cube alone gives.
use Rattle.std.proofs.Common.{take}
use Rattle.cpg_cover.specs.Fewest.{Needs}
use Rattle.cpg_cover.proofs.fewest.fewest_of_each.Given as goal

-- if none of the cubes so far is matched, there are at least `most` faults
abbrev pub invariant-loop-cube : goal.invariant-loop-cube
invariant-loop-cube l = Needs (take l.cube-index l.cubes) l.most
