-- Loops of `asked_after`, which returns what literals still ask after a step; `None` if one of them can't hold.
use Rattle.std.proofs.Common.{◌≡◌, ℕ, take, true}
use Rattle.cpg_cover.specs.Fewest.{IsStep, after, matches_at}
use Rattle.cpg_cover.proofs.stepping.asked_after.Given as goal

-- for numbers that the step takes, if the literals asked hold after the step, the literals so far hold before it
abbrev pub invariant-loop-literal : goal.invariant-loop-literal
invariant-loop-literal l = (n : ℕ → ℕ) → IsStep l.step.variable l.step.more l.budget n →
    matches_at (after l.step.variable n) l.asked.items ≡ true → matches_at n (take l.literal-index l.literals) ≡ true
