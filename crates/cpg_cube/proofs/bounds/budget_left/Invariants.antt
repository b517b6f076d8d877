-- Loops of `budget_left`, which returns what is left of `k` faults after those that the literals ask for; `None`
-- exactly if some literal can't hold with at most `k` faults, or all together ask for more.
use Rattle.std.proofs.Common.{◌≡◌, drop}
use Rattle.cpg_cube.specs.Fit.{is_open, asked_of_literal}
use Rattle.cpg_cube.specs.Bounds.{budget_left}
use Rattle.cpg_cube.proofs.bounds.budget_left.Given as goal

-- the literals so far leave `left` of the k faults, so the answer is that of the literals still to come
abbrev pub invariant-loop-literal : goal.invariant-loop-literal
invariant-loop-literal l = budget_left (is_open l.k) asked_of_literal l.k l.literals
    ≡ budget_left (is_open l.k) asked_of_literal l.left (drop l.literal-index l.literals)
