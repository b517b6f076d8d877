-- Narrowing a cube by a literal: the result matches the scenarios that both match.
use Rattle.std.specs.Prelude.{ℕ, max, min, ◌==◌, nat_lt, nat_le, if◌then◌else◌, List, [], ◌∷◌, Option, None, Some}
use Rattle.cpg_cube.specs.declared.literal.Literal.{Literal}

-- what the ranges of two literals on one variable have in common, which may be nothing (its low is above its high then)
abbrev pub meet_literal : Literal → Literal → Literal
meet_literal l m = record { variable = m.variable; low = max l.low m.low; high = min l.high m.high }

-- the cube with the literal met with the one on its variable, or put in by variable if there is none
abbrev pub narrowed_by : Literal → List Literal → List Literal
narrowed_by l [] = l ∷ []
narrowed_by l (m ∷ ms) = if nat_lt l.variable m.variable then l ∷ m ∷ ms else
    if l.variable == m.variable then meet_literal l m ∷ ms else m ∷ narrowed_by l ms

-- the range of l's variable after narrowing: met with that of the cube's literal on it, if there is one
abbrev pub range_left : Literal → List Literal → Literal
range_left l [] = l
range_left l (m ∷ ms) = if l.variable == m.variable then meet_literal l m else range_left l ms

-- the cube narrowed by the literal, or None if that leaves the literal's variable no number
abbrev pub with_literal : Literal → List Literal → Option (List Literal)
with_literal l cube = if nat_le (range_left l cube).low (range_left l cube).high
    then Some (narrowed_by l cube) else None
