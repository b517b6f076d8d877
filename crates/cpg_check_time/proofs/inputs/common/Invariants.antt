-- Loops of `common`: the cube that matches where two cubes both do; `None` exactly if their ranges of some variable
-- have no number in common.
use Rattle.std.proofs.Common.{◌≡◌, ◌&&◌, take}
use Rattle.cpg_base.specs.Graph.{Graph}
use Rattle.cpg_base.specs.Scenario.{Scenario}
use Rattle.cpg_cube.specs.Cube.{matches}
use Rattle.cpg_cube.specs.Fit.{IsKnown}
use Rattle.cpg_check_time.proofs.inputs.common.Given as goal

-- After each literal. `both`: a scenario matches `part` exactly if it matches the cube and the literals so far.
-- `known`: if both cubes are on variables of a graph, so is `part`.
abbrev pub invariant-loop-literal : goal.invariant-loop-literal
invariant-loop-literal l = record {
  both : (s : Scenario) → matches l.part s ≡ (matches l.cube s && matches (take l.literal-index l.literal-items) s);
  known : (g : Graph) → IsKnown g l.cube → IsKnown g l.other → IsKnown g l.part;
}
