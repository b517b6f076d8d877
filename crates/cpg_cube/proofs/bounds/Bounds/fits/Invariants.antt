-- Loops of `Bounds::fits`: whether all literals share a number with the ranges here, and ask together for no more than
-- `room` faults beyond the lows.
use Rattle.std.proofs.Common.{◌≡◌, drop}
use Rattle.std.specs.Prelude.{is_some}
use Rattle.cpg_cube.specs.Bounds.{budget_left, touches, more_asked}
use Rattle.cpg_cube.proofs.bounds.Bounds.fits.Given as goal

-- the literals so far pass and leave `left` faults, so the answer is that of the literals still to come
abbrev pub invariant-loop-literal : goal.invariant-loop-literal
invariant-loop-literal l =
    is_some (budget_left (touches l.k l.self.low l.self.high) (more_asked l.self.low) l.room l.literals)
    ≡ is_some (budget_left (touches l.k l.self.low l.self.high) (more_asked l.self.low) l.left
    (drop l.literal-index l.literals))
