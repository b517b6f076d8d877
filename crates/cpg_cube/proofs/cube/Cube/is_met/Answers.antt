-- Proof of `Cube::is_met`: whether the cube matches some scenario of at most `k` faults.
use Rattle.std.proofs.Common.{◌∙◌, ap}
use Rattle.std.specs.Prelude.{is_some}
use Rattle.cpg_cube.proofs.Meeting.{met_is}
use Rattle.cpg_cube.proofs.cube.Cube.is_met.Goals as goal

-- the cube is met exactly if its literals leave some of the budget
pub returns-clause-met : goal.returns-clause-met
returns-clause-met c = c.is_some.ensures ∙ ap is_some (rw c.literals.ensures.literals at c.budget_left.ensures)
    ∙ met_is c.args.k c.args.self.now
