-- Loops of `stepped`, which returns the cubes of what some cubes still ask after a step, without those that can't
-- match.
use Rattle.std.proofs.Common.{◌≡◌, ℕ, take, true}
use Rattle.cpg_cover.specs.Fewest.{IsStep, after, is_any_at}
use Rattle.cpg_cover.proofs.stepping.stepped.Given as goal

-- for numbers that the step takes, if a cube made so far matches after the step, one of the cubes so far matches
-- before it
abbrev pub invariant-loop-cube : goal.invariant-loop-cube
invariant-loop-cube l = (n : ℕ → ℕ) → IsStep l.step.variable l.step.more l.budget n →
    is_any_at (after l.step.variable n) l.rest.items ≡ true → is_any_at n (take l.cube-index l.cubes) ≡ true
