-- Recursion and loop of `least_along`, `least_by_number` and `least_of_part`, which return the least scenario that a
-- list of cubes leaves of a cube, variable by variable along the order.
use Rattle.std.proofs.Common.{◌+◌, ◌*◌, ◌&&◌, length, map}
use Rattle.std.specs.Prelude.{nat_lt}
use Rattle.cpg_base.specs.First.{IsFirst}
use Rattle.cpg_base.specs.Scenario.{number_of}
use Rattle.cpg_cover.specs.Cover.{is_left}
use Rattle.cpg_cover.proofs.cover.+along.Given as goal

-- The three functions call each other. The variables that are left count three each, so that a call with one variable
-- less is smaller, and calls with the same variables go from `least_of_part` over `least_along` to `least_by_number`.
abbrev pub decreases-least_along : goal.decreases-least_along
decreases-least_along l = length l.variables.now * 3 + 1

-- `least_by_number` calls `least_of_part` for the numbers of the first variable, with one variable less
abbrev pub decreases-least_by_number : goal.decreases-least_by_number
decreases-least_by_number l = length l.variables.now * 3

-- `least_of_part` calls `least_along` with the same variables
abbrev pub decreases-least_of_part : goal.decreases-least_of_part
decreases-least_of_part l = length l.variables.now * 3 + 2

-- `found` is the least scenario that is left and has a number of the variable below `number`; None if there is none
abbrev pub invariant-least_by_number-loop-number : goal.invariant-least_by_number-loop-number
invariant-least_by_number-loop-number l = IsFirst l.problem l.order
    (λ s. is_left (map (λ b. b.now) l.by.items) l.cube s && nat_lt (number_of s l.variable) l.number) l.found
