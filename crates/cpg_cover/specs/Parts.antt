-- The ranges below and above a literal's range: the three together have all numbers that the literal's variable can
-- have.
use Rattle.std.specs.Prelude.{ℕ, ◌+◌, ◌-◌, if◌then◌else◌, nat_lt, Option, None, Some}
use Rattle.cpg_cube.specs.declared.literal.Literal.{Literal}
use Rattle.cpg_base.specs.Variable.{top}

-- the numbers below a literal's range, as a literal on its variable; None if the range begins at 0
abbrev pub range_below : Literal → Option Literal
range_below l = if nat_lt 0 l.low then Some (record { variable = l.variable; low = 0; high = l.low - 1 }) else None

-- the numbers above a literal's range, as a literal on its variable; None if the range reaches the most that the
-- variable can be with k faults
abbrev pub range_above : ℕ → Literal → Option Literal
range_above k l = if nat_lt l.high (top k l.variable)
    then Some (record { variable = l.variable; low = l.high + 1; high = top k l.variable }) else None
