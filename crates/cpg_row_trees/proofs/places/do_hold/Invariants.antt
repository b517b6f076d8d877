-- Loops of `do_hold`: whether all literals hold in the whole space; true only if they do.
use Rattle.std.proofs.Common.{◌≡◌, true, take}
use Rattle.cpg_base.specs.Scenario.{Scenario}
use Rattle.cpg_cube.specs.Cube.{matches}
use Rattle.cpg_tree.specs.Space.{IsInSpace}
use Rattle.cpg_row_trees.proofs.places.do_hold.Given as goal

-- each literal so far holds in every scenario of the space
abbrev pub invariant-loop-literal : goal.invariant-loop-literal
invariant-loop-literal l = (s : Scenario) → IsInSpace l.space s → matches (take l.literal-index l.literals) s ≡ true
