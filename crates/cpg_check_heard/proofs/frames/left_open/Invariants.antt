-- Loops of `left_open`: those of some bounds that none of `arrivals` is found to tell wherever a column matches, by the
-- column's time.
use Rattle.std.proofs.Common.{◌≡◌, Bool, true, false, All, take}
use Rattle.std.specs.List.{list_any}
use Rattle.cpg_base.specs.Graph.{IsVariable}
use Rattle.cpg_base.specs.Scenario.{Scenario, IsScenario}
use Rattle.cpg_cube.specs.Cube.{matches}
use Rattle.cpg_check_heard.specs.declared.bound.LiteralBound.{LiteralBound}
use Rattle.cpg_check_heard.specs.Arrivals.{do_tell}
use Rattle.cpg_check_heard.specs.Bounds.{variable_of}
use Rattle.cpg_check_heard.proofs.frames.left_open.Given as goal

-- After each bound. `known`: each bound that is left is of a variable of the graph. `left`: a test that fails at each
-- bound that an arrival tells passes at one that is left exactly if it passes at one of the bounds so far.
abbrev pub invariant-loop-bound : goal.invariant-loop-bound
invariant-loop-bound l = record {
  known : All (λ (b : LiteralBound). IsVariable l.problem (variable_of b)) l.left.items;
  left : (s : Scenario) (test : LiteralBound → Bool) → IsScenario l.problem s → matches l.column.cube s ≡ true →
      ((b : LiteralBound) → IsVariable l.problem (variable_of b) →
      do_tell l.problem l.column.time b l.arrivals s ≡ true → test b ≡ false)
      → list_any test l.left.items ≡ list_any test (take l.bound-index l.bounds);
}
