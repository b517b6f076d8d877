-- A cube's ranges as the code keeps them: a list of lows and a list of highs, each by variable. Also budgets of faults.
use Rattle.std.specs.Prelude.{ℕ, ◌+◌, ◌-◌, ◌<◌, ◌≡◌, max, min, Bool, ◌&&◌, ◌==◌, nat_lt, nat_le, if◌then◌else◌, List}
use Rattle.std.specs.Prelude.{[], ◌∷◌, Option, Some, None, get_or}
use Rattle.cpg_cube.specs.Cube.{Literal, low_in}
use Rattle.cpg_cube.specs.Fit.{is_open}

-- the greatest number of a cube's range for v, or 255, the greatest byte, if it has no literal on v
abbrev pub bound_in : List Literal → ℕ → ℕ
bound_in [] v = 255
bound_in (l ∷ ls) v = if l.variable == v then l.high else bound_in ls v

-- the lists have the low and the high of each variable in the cube
pub record AreBounds (cube : List Literal) (lows highs : List ℕ) : Type 0 where
  -- the low of v is that of the cube's range, or 0 if no literal is on v
  pub low : (v : ℕ) → v < 256 → get_or lows v 0 ≡ low_in cube v
  -- the high of v is that of the cube's range, or 255 if no literal is on v
  pub high : (v : ℕ) → v < 256 → get_or highs v 0 ≡ bound_in cube v

-- `raised` is `lows` with each number raised to the cube's low of its variable, if that is greater
abbrev pub AreRaised : List Literal → List ℕ → List ℕ → Type 0
AreRaised cube lows raised = (v : ℕ) → v < 256 → get_or raised v 0 ≡ max (get_or lows v 0) (low_in cube v)

-- What is left of a budget after each literal has taken its demand from it. None if a literal fails the test, or
-- demands more than is left at its turn.
abbrev pub budget_left : (Literal → Bool) → (Literal → ℕ) → ℕ → List Literal → Option ℕ
budget_left test demand left [] = Some left
budget_left test demand left (l ∷ ls) = if test l && nat_le (demand l) left
    then budget_left test demand (left - demand l) ls else None

-- whether the literal can hold with at most k faults, and its range shares a number with the range that the lists have
-- for its variable
abbrev pub touches : ℕ → List ℕ → List ℕ → Literal → Bool
touches k low high l = is_open k l && nat_le (get_or low l.variable 0) l.high && nat_le l.low (get_or high l.variable 0)

-- how many more faults a literal asks for than the list's low of its variable; 0 if the variable is a value
abbrev pub more_asked : List ℕ → Literal → ℕ
more_asked low l = if nat_lt l.variable 128 then l.low - get_or low l.variable 0 else 0

-- Whether a literal's range has all numbers that its variable can have within the lists if `left` faults are left
-- beyond the lows: a count is at most its low plus these faults, and a value at most 1.
abbrev pub spans : List ℕ → List ℕ → ℕ → Literal → Bool
spans low high left l = nat_le l.low (get_or low l.variable 0)
    && nat_le (min (get_or high l.variable 0) (if nat_lt l.variable 128 then get_or low l.variable 0 + left else 1))
    l.high
