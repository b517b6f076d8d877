-- What columns are sorted by: the lows of their cubes along an order of processes. Each process gives the low of its
-- fault count, and then that of its condition's value if it has a condition. A low is given as a function of the
-- variable.
use Rattle.std.specs.Prelude.{ℕ, suc, ◌+◌, ◌-◌, ◌*◌, ◌<◌, ◌≤◌, ◌≡◌, ◌≢◌, ◌==◌, nat_lt, if◌then◌else◌, false, List, []}
use Rattle.std.specs.Prelude.{◌∷◌, ◌++◌, get_or, length, map, take, drop, Option, None, Some, All, AllPairs}
use Rattle.std.specs.List.{flat_map}
use Rattle.cpg_base.specs.Graph.{Graph, value_variable, condition_of}
use Rattle.cpg_base.specs.Numbers.{is_below}
use Rattle.cpg_cube.specs.Cube.{Literal, low_in}

-- the low of the condition's value, or nothing if there is no condition
abbrev pub low_of_value : (ℕ → ℕ) → Option ℕ → List ℕ
low_of_value low None = []
low_of_value low (Some c) = low (value_variable c) ∷ []

-- the low of p's fault count, and then that of its condition's value, if it has a condition
abbrev pub lows_of : Graph → (ℕ → ℕ) → ℕ → List ℕ
lows_of g low p = low p ∷ low_of_value low (condition_of g p)

-- the lows of all processes, in the order
abbrev pub lows_along : Graph → List ℕ → (ℕ → ℕ) → List ℕ
lows_along g order low = flat_map (lows_of g low) order

-- No column's lows come before those of an earlier column; `cube` gives the cube of a column.
abbrev pub AreByLows : {T : Type 0} → (T → List Literal) → Graph → List ℕ → List T → Type 0
AreByLows {T} cube g order columns = AllPairs (λ (c d : T).
    is_below (lows_along g order (low_in (cube d))) (lows_along g order (low_in (cube c))) ≡ false) columns

-- no column's lows come before those of the column at the place `at`
pub record IsFirstByLows {T : Type 0} (cube : T → List Literal) (g : Graph) (order : List ℕ) (columns : List T)
    -- d is what `get_or` answers behind the last column, so it plays no part
    (at : ℕ) : Type 0 where
  -- there is a column at the place
  pub there : at < length columns
  -- no column's lows come before its lows
  pub first : (j : ℕ) (d : T) → j < length columns →
      is_below (lows_along g order (low_in (cube (get_or columns j d))))
      (lows_along g order (low_in (cube (get_or columns at d)))) ≡ false

-- ---- The code asks for the same lows by a list of variables.

-- the variable of the condition's value, or nothing if there is no condition
abbrev pub variable_of_value : Option ℕ → List ℕ
variable_of_value None = []
variable_of_value (Some c) = value_variable c ∷ []

-- the variable of p's fault count, and then that of its condition's value, if it has a condition
abbrev pub variables_of : Graph → ℕ → List ℕ
variables_of g p = p ∷ variable_of_value (condition_of g p)

-- the variables of all processes, in the order
abbrev pub variables_along : Graph → List ℕ → List ℕ
variables_along g order = flat_map (variables_of g) order

-- What the code sorts by, as most lows are 0: only the others, each as one number with how many places are left at it.
-- An earlier place has more left, so it counts for more. There are at most 256 places, and a low is below 256.

-- each number that isn't 0, as `left * 256` and the number, if `left` places are left at the first number of the list
abbrev pub asked_from : ℕ → List ℕ → List ℕ
asked_from left [] = []
asked_from left (x ∷ xs) = if x == 0 then asked_from (left - 1) xs else (left * 256 + x) ∷ asked_from (left - 1) xs

-- the key of a function's lows along an order
abbrev pub key_along : Graph → List ℕ → (ℕ → ℕ) → List ℕ
key_along g order low = asked_from 256 (lows_along g order low)

-- the key of a cube's lows for a list of variables
abbrev pub key_by : List ℕ → List Literal → List ℕ
key_by variables cube = asked_from 256 (map (low_in cube) variables)

-- ---- How the code makes a key from the literals of a cube, in any order of the variables.

-- how many places are left at v if `left` are at the first of the variables, or 0 if v is none of them
abbrev pub left_at : ℕ → List ℕ → ℕ → ℕ
left_at left [] v = 0
left_at left (u ∷ us) v = if u == v then left else left_at (left - 1) us v

-- `places` has, by variable, how many places are left at each of a list of variables
pub record ArePlaces (variables places : List ℕ) : Type 0 where
  -- there are at most 256 variables
  pub few : length variables ≤ 256
  -- no variable is there twice
  pub apart : AllPairs (λ u v. u ≢ v) variables
  -- 256 places are left at the first of them, and one less at each that follows
  pub left : (v : ℕ) → get_or places v 0 ≡ left_at 256 variables v

-- how many numbers at the front of a key are at least `number`; a key falls, so it belongs behind these
abbrev pub place_in : ℕ → List ℕ → ℕ
place_in number [] = 0
place_in number (more ∷ key) = if nat_lt more number then 0 else suc (place_in number key)

-- a key with a number more, in its place
abbrev pub with_number : ℕ → List ℕ → List ℕ
with_number number key = take (place_in number key) key ++ number ∷ drop (place_in number key) key

-- a key with a low more, at a variable at which `left` places are left; the key as it is if none are, since the
-- variable is none of those of the key
abbrev pub with_any_asked : ℕ → ℕ → List ℕ → List ℕ
with_any_asked left low key = if left == 0 then key else with_number (left * 256 + low) key

-- a key with the low of a literal more, if that isn't 0 and the literal's variable has a place
abbrev pub with_low_of : List ℕ → Literal → List ℕ → List ℕ
with_low_of places l key = if l.low == 0 then key else with_any_asked (get_or places l.variable 0) l.low key

-- a key with the lows of some literals more, one after another
abbrev pub with_lows_of : List ℕ → List Literal → List ℕ → List ℕ
with_lows_of places [] key = key
with_lows_of places (l ∷ ls) key = with_lows_of places ls (with_low_of places l key)

-- the low of each literal is a byte, so that it counts for less than one place
abbrev pub AreBytes : List Literal → Type 0
AreBytes cube = All (λ (l : Literal). l.low < 256) cube

-- the key is that of a cube for a list of variables, and the cube's lows are bytes
pub record IsKeyOf (variables : List ℕ) (cube : List Literal) (key : List ℕ) : Type 0 where
  -- `key` is made of the cube's lows of the variables
  pub is : key ≡ key_by variables cube
  -- the cube's lows are bytes
  pub bytes : AreBytes cube

-- none of the first n columns has a key before that of the column at the place `at`, which is one of them
pub record IsFirstByKeys {T : Type 0} (cube : T → List Literal) (variables : List ℕ) (n : ℕ) (columns : List T)
    (at : ℕ) : Type 0 where
  -- the place is one of the first n
  pub there : at < n
  -- none of these columns has a key before that of the column at the place
  pub first : (j : ℕ) (d : T) → j < n →
      is_below (key_by variables (cube (get_or columns j d))) (key_by variables (cube (get_or columns at d))) ≡ false
  -- the lows of all literals of these columns are bytes
  pub bytes : (j : ℕ) (d : T) → j < n → AreBytes (cube (get_or columns j d))
