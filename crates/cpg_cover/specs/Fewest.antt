-- How many faults a scenario has at least if no cube of a list matches it. A scenario is given here as its numbers: a
-- function from each variable to its number.
use Rattle.std.specs.Prelude.{ℕ, ◌-◌, ◌≡◌, ◌≤◌, ◌<◌, Bool, true, false, ◌&&◌, ◌==◌, nat_le, if◌then◌else◌, List, All}
use Rattle.std.specs.Prelude.{get_or, sum_by}
use Rattle.std.specs.List.{list_all, list_any}
use Rattle.cpg_base.specs.Numbers.{numbers_below, same_bool}
use Rattle.cpg_cube.specs.declared.literal.Literal.{Literal}
use Rattle.cpg_cube.specs.Bounds.{spans}
use Rattle.cpg_cover.specs.declared.stepping.Rest.{Rest}
use Rattle.cpg_cover.specs.declared.stepping.Rest.TheVariants.{Held, Missed, Asked}

-- whether the number of the literal's variable is in its range
abbrev pub holds_at : (ℕ → ℕ) → Literal → Bool
holds_at n l = nat_le l.low (n l.variable) && nat_le (n l.variable) l.high

-- whether the cube matches the numbers: each literal holds
abbrev pub matches_at : (ℕ → ℕ) → List Literal → Bool
matches_at n cube = list_all (holds_at n) cube

-- whether some cube of a list matches the numbers
abbrev pub is_any_at : (ℕ → ℕ) → List (List Literal) → Bool
is_any_at n cubes = list_any (matches_at n) cubes

-- each value, a variable from 128 on, is 0 or 1
abbrev pub AreValues : (ℕ → ℕ) → Type 0
AreValues n = (v : ℕ) → 128 ≤ v → n v ≤ 1

-- All numbers n that the cube doesn't match have at least r faults. (The sum over the 128 counts has `count` for 128,
-- since the prover would otherwise unfold it.)
abbrev pub NeedsOutside : List Literal → ℕ → Type 0
NeedsOutside cube r =
    (count : ℕ) → count ≡ 128 → (n : ℕ → ℕ) → matches_at n cube ≡ false → r ≤ sum_by n (numbers_below count)

-- all numbers n that no cube of the list matches have at least r faults
abbrev pub Needs : List (List Literal) → ℕ → Type 0
Needs cubes r = (count : ℕ) → count ≡ 128 → (n : ℕ → ℕ) → AreValues n → is_any_at n cubes ≡ false →
    r ≤ sum_by n (numbers_below count)

-- all numbers n that no cube of the list matches have at least r faults, if the variable is 0 in them and their faults
-- are within the budget
abbrev pub NeedsWithout : List (List Literal) → ℕ → ℕ → ℕ → Type 0
NeedsWithout cubes variable budget r = (count : ℕ) → count ≡ 128 → (n : ℕ → ℕ) → AreValues n → n variable ≡ 0 →
    sum_by n (numbers_below count) ≤ budget → is_any_at n cubes ≡ false → r ≤ sum_by n (numbers_below count)

-- the numbers with one taken from that of the variable
abbrev pub after : ℕ → (ℕ → ℕ) → ℕ → ℕ
after variable n v = if variable == v then n v - 1 else n v

-- What a search assumes of the numbers when it steps by a variable: with `more` false that the variable's number is 0,
-- and with `more` true that it is at least 1. In the second case the search goes on with one less of the number
-- (`after`).
pub record IsStep (variable : ℕ) (more : Bool) (budget : ℕ) (n : ℕ → ℕ) : Type 0 where
  -- the number of a value is 0 or 1
  pub values : (v : ℕ) → 128 ≤ v → n v ≤ 1
  -- the number of the variable is 0 if `more` is false
  pub zero : more ≡ false → n variable ≡ 0
  -- the number of the variable is at least 1 if `more` is true
  pub some : more ≡ true → 1 ≤ n variable
  -- after the step no count is above the budget (if `more` is false, one less than 0 is 0)
  pub few : (v : ℕ) → v < 128 → after variable n v ≤ budget

-- whether what a literal still asks after a step holds: nothing (it is held), too much (it is missed), or a literal
abbrev pub rest_holds : (ℕ → ℕ) → Rest → Bool
rest_holds n Held = true
rest_holds n Missed = false
rest_holds n (Asked l) = holds_at n l

-- each variable of each cube is marked, if `wanted` is true, or unmarked, if it is false
abbrev pub AreMarked : List Bool → Bool → List (List Literal) → Type 0
AreMarked marks wanted cubes =
    All (λ c. list_all (λ l. same_bool (get_or marks l.variable false) wanted) c ≡ true) cubes

-- `more` has the marks of `marks`, and marks the variables of the cube's literals too
pub record AreMore (cube : List Literal) (marks more : List Bool) : Type 0 where
  -- what `marks` marks is marked
  pub kept : (v : ℕ) → get_or marks v false ≡ true → get_or more v false ≡ true
  -- the variable of each literal is marked
  pub marked : list_all (λ l. same_bool (get_or more l.variable false) true) cube ≡ true

-- ---- Numbers beyond the lows of a cube: what is left to choose for a scenario that the cube matches.

-- by how much the number of v is greater than its low
abbrev pub beyond : List ℕ → (ℕ → ℕ) → ℕ → ℕ
beyond low s v = s v - get_or low v 0

-- the numbers are those of a scenario that the cube matches, as far as a search knows: the cube has these lows and
-- highs, and leaves `left` faults
pub record IsOn (low high : List ℕ) (left : ℕ) (s : ℕ → ℕ) : Type 0 where
  -- no number is below its low
  pub lows : (v : ℕ) → get_or low v 0 ≤ s v
  -- a literal holds if its range has all numbers that its variable can have
  pub spanned : (l : Literal) → spans low high left l ≡ true → holds_at s l ≡ true

-- no number of the cube's variables is further beyond its low than the literal's range is wide
abbrev pub IsNarrow : List ℕ → (ℕ → ℕ) → List Literal → Type 0
IsNarrow low s cube = All (λ l. beyond low s l.variable ≤ l.high - l.low) cube
