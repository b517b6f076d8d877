-- Loops of `Space::affords`: whether the faults left suffice for the lows of literals from the place `from` on: if not,
-- no scenario of the space matches the literals.
use Rattle.std.proofs.Common.{◌≡◌, ◌≤◌, true, sum_by, drop}
use Rattle.cpg_base.specs.Scenario.{Scenario}
use Rattle.cpg_cube.specs.Cube.{matches}
use Rattle.cpg_tree.specs.Space.{IsInSpace, asked_beyond}
use Rattle.cpg_tree.proofs.space.Space.affords.Given as goal

-- if a scenario of the space matches all literals, what the literals from here on ask for is not more than is left
abbrev pub invariant-loop-at : goal.invariant-loop-at
invariant-loop-at l = (s : Scenario) → IsInSpace l.self s → matches l.literals s ≡ true →
    sum_by (asked_beyond l.self) (drop l.at l.literals) ≤ l.left
