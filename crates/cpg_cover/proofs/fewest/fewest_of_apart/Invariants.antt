-- Loops of `fewest_of_apart`, which returns a lower bound of the faults of scenarios that none of the cubes matches:
-- the sum over some cubes that have no variable in common, chosen in the order of the list.
use Rattle.cpg_cover.proofs.FewestLaws.{NeedsOfMarked}
use Rattle.cpg_cover.proofs.fewest.fewest_of_apart.Given as goal

-- if no cube is matched, the faults of the variables marked so far are at least `sum`
abbrev pub invariant-loop-cube : goal.invariant-loop-cube
invariant-loop-cube l = NeedsOfMarked l.cubes l.marks l.sum
