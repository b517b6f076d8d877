-- Loops of `Space::narrow_to`, which narrows the space to the scenarios that literals match.
use Rattle.std.proofs.Common.{◌≡◌, true}
use Rattle.cpg_base.specs.Scenario.{Scenario}
use Rattle.cpg_cube.specs.Cube.{matches}
use Rattle.cpg_tree.specs.Space.{IsInSpace}
use Rattle.cpg_tree.proofs.space.Space.narrow_to.Given as goal

-- a scenario of the first space that all literals match lies in the space so far
abbrev pub invariant-loop-literal : goal.invariant-loop-literal
invariant-loop-literal l = (s : Scenario) → IsInSpace l.fn.self s → matches l.literals s ≡ true → IsInSpace l.self s
