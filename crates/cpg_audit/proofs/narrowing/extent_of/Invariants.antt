-- Loops of `extent_of`: which scenarios of a space a cube with these literals matches.
use Rattle.std.proofs.Common.{◌≡◌, true, take}
use Rattle.std.specs.Prelude.{IfNone, IfSome}
use Rattle.cpg_base.specs.Scenario.{Scenario}
use Rattle.cpg_cube.specs.Cube.{holds, matches}
use Rattle.cpg_tree.specs.Space.{IsInSpace}
use Rattle.cpg_audit.proofs.narrowing.extent_of.Given as goal

-- `none`: while no literal is open, the literals so far hold in the whole space. `some`: otherwise they hold there
-- exactly if the open one does
abbrev pub invariant-loop-literal : goal.invariant-loop-literal
invariant-loop-literal l = record {
  none : IfNone l.open ((s : Scenario) → IsInSpace l.space s → matches (take l.literal-index l.literals) s ≡ true);
  some : IfSome l.open
      (λ o. (s : Scenario) → IsInSpace l.space s → matches (take l.literal-index l.literals) s ≡ holds s o);
}
