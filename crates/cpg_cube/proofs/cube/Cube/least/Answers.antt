-- Proof of `Cube::least`, which returns the least scenario that the cube matches, which is the least along every order
-- of the processes; `None` exactly if it matches none within the problem's faults.
use Rattle.std.proofs.Common.{rules, ◌≡◌, true, false}
use Rattle.cpg_cube.specs.Fit.{IsCube, is_met}
use Rattle.cpg_cube.proofs.CubeLows.{lows-least}
use Rattle.cpg_cube.proofs.Meeting.{unmatched}
use Rattle.cpg_cube.proofs.cube.Cube.least.Goals as goal

-- a cube that isn't met matches no scenario of the graph
pub returns-then-not-is_met-clause-first : goal.returns-then-not-is_met-clause-first
returns-then-not-is_met-clause-first c order =
    let graph = c.args.problem.now in
    -- this cube is a cube of the graph: its variables rise, and each is one of the graph's
    let is : IsCube graph c.args.self.now = record { rising = c.is_met.ensures.rising; known = c.requires.known } in
    let met : is_met graph.faults c.args.self.now ≡ false = search rules in
    unmatched graph c.faults.ensures.within c.args.self.now is met

-- a cube that is met matches the scenario of its lows, and none is before that in any order
pub returns-clause-first : goal.returns-clause-first
returns-clause-first c order =
    let graph = c.args.problem.now in
    -- this cube is a cube of the graph: its variables rise, and each is one of the graph's
    let is : IsCube graph c.args.self.now = record { rising = c.is_met.ensures.rising; known = c.requires.known } in
    let met : is_met graph.faults c.args.self.now ≡ true = search rules in
    rw c.in_ok-least.ensures (lows-least graph c.faults.ensures.within.few_processes c.args.self.now is met order)
