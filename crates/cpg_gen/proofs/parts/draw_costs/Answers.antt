-- Proof of `draw_costs`, which returns the costs of a process, by the next five draws.
use Rattle.std.proofs.Common.{rules}
use Rattle.cpg_gen.specs.Draws.{number_after}
use Rattle.cpg_gen.proofs.parts.draw_costs.Goals as goal

-- the costs are the next five draws, as `number_after` unfolds to five numbers
pub returns-clause-costs : goal.returns-clause-costs
unfolding number_after
returns-clause-costs c = search rules

-- after five draws the number is the fifth from the first
pub returns-clause-number : goal.returns-clause-number
unfolding number_after
returns-clause-number c = search rules
