-- Whether variables rise, as one pass over the literals finds it.
use Rattle.std.specs.Prelude.{ℕ, ◌+◌, Bool, true, ◌&&◌, nat_le, List, [], ◌∷◌}
use Rattle.cpg_cube.specs.Cube.{Literal}

-- whether the variables rise and the first is at least `least`
abbrev pub rises_from : ℕ → List Literal → Bool
rises_from least [] = true
rises_from least (l ∷ ls) = nat_le least l.variable && rises_from (l.variable + 1) ls
