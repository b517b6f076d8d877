-- Narrowing at the place of a literal.
use Rattle.std.proofs.Common.{ℕ, zero, suc, ◌+◌, ◌<◌, ◌≤◌, ◌≡◌, true, false, cond, not, List, [], ◌∷◌, ◌++◌, length}
use Rattle.std.proofs.Common.{Bool, Some, None, arith, refl, sym, ap, ◌∙◌, ⊎_elim, le-leb, ltb-true, ltb-false}
use Rattle.std.specs.Prelude.{nat_le, nat_lt, position, slice_index_or, slice_set, insert}
use Rattle.std.specs.List.{position_or_len, AllByRecursion}
use Rattle.std.proofs.lemmas.Bool.{cases_lt, lt-leb}
use Rattle.cpg_cube.specs.Cube.{Literal}
use Rattle.cpg_cube.specs.Narrow.{meet_literal, narrowed_by}
use Rattle.cpg_cube.proofs.Narrow.{narrowed-before, narrowed-here, narrowed-after}

-- whether a literal's variable is at least this
abbrev pub from_variable : ℕ → Literal → Bool
from_variable v l = nat_le v l.variable

-- the literals before place i are on variables below v, and the one there is on v or above
abbrev pub IsPlace : ℕ → List Literal → ℕ → Type 0
IsPlace v [] i = ⊥
IsPlace v (m ∷ ms) zero = v ≤ m.variable
IsPlace v (m ∷ ms) (suc i) = (m.variable < v) × IsPlace v ms i

-- given: a variable v
module _ (v : ℕ) where
  -- no literal stands before a first one on the variable or above
  counted_first : (m : Literal) (ms : List Literal) → v ≤ m.variable → position_or_len (from_variable v) (m ∷ ms) ≡ 0
  counted_first m ms from_v =
      ap (λ b. cond (not b) (1 + position_or_len (from_variable v) ms) 0) (le-leb v m.variable from_v)

  -- a first literal on a variable below is counted
  counted_rest : (m : Literal) (ms : List Literal) → m.variable < v →
      position_or_len (from_variable v) (m ∷ ms) ≡ 1 + position_or_len (from_variable v) ms
  counted_rest m ms below =
      ap (λ b. cond (not b) (1 + position_or_len (from_variable v) ms) 0) (lt-leb v m.variable below)

  -- the count of the literals before the first one on the variable or above is the place of that one
  pub place_of_count : (cube : List Literal) (i : ℕ) → position_or_len (from_variable v) cube ≡ i → i < length cube →
      IsPlace v cube i
  -- by induction on the literals, and by whether `m.variable` is below `v`
  place_of_count [] i count_is inside = absurd (omega arith)
  place_of_count (m ∷ ms) zero count_is inside = ⊎_elim
      -- none is counted, so the first literal isn't below v
      (λ (below : m.variable < v). let counted = counted_rest m ms below in absurd (omega arith))
      (λ (from_v : v ≤ m.variable). from_v)
      (cases_lt m.variable v)
  place_of_count (m ∷ ms) (suc i) count_is inside = ⊎_elim
      -- one is counted at least, so the first literal is below v, and the others are counted among the rest
      (λ (below : m.variable < v). let counted = counted_rest m ms below in
      (below, place_of_count ms i (omega arith) (omega arith)))
      (λ (from_v : v ≤ m.variable). let counted = counted_first m ms from_v in absurd (omega arith))
      (cases_lt m.variable v)

  -- if all literals are counted, all are on variables below
  all_lower : (cube : List Literal) → length cube ≤ position_or_len (from_variable v) cube →
      AllByRecursion (λ m. m.variable < v) cube
  -- by induction on the literals, and by whether `m.variable` is below `v`
  all_lower [] all_counted = tt
  all_lower (m ∷ ms) all_counted = ⊎_elim
      (λ (below : m.variable < v). let counted = counted_rest m ms below in (below, all_lower ms (omega arith)))
      (λ (from_v : v ≤ m.variable). let counted = counted_first m ms from_v in absurd (omega arith))
      (cases_lt m.variable v)

-- if a search answers a place, that is the number it counted, which is below the length
found : (n m i : ℕ) → cond (nat_lt n m) (Some n) None ≡ Some i → (n ≡ i) × (i < m)
found n m i answer_is = by_case (nat_lt n m) refl answer_is
  where
    -- a number is answered only if it is within the length
    by_case : (b : Bool) → nat_lt n m ≡ b → cond b (Some n) None ≡ Some i → (n ≡ i) × (i < m)
    by_case true test_is case_is = let same : n ≡ i = cc in let below = ltb-true n m test_is in (same, omega arith)
    by_case false test_is case_is = cc

-- if a search answers none, the number that it counted is at least the length
not_found : (n m : ℕ) → cond (nat_lt n m) (Some n) None ≡ None → m ≤ n
not_found n m answer_is = by_case (nat_lt n m) refl answer_is
  where
    -- by whether the number is within the length
    by_case : (b : Bool) → nat_lt n m ≡ b → cond b (Some n) None ≡ None → m ≤ n
    by_case true test_is case_is = cc
    by_case false test_is case_is = ltb-false n m test_is

-- the position that the search finds is the place of the variable
pub place_found : (v : ℕ) (cube : List Literal) (i : ℕ) → position (from_variable v) cube ≡ Some i → IsPlace v cube i
place_found v cube i answer_is = let counts =
    found (position_or_len (from_variable v) cube) (length cube) i answer_is in
    place_of_count v cube i counts.0 counts.1

-- ---- the cube narrowed there

-- given: the literal l that narrows a cube
module _ (l : Literal) where
  -- a literal on a variable above all others is put last
  narrowed_last : (cube : List Literal) → AllByRecursion (λ m. m.variable < l.variable) cube →
      narrowed_by l cube ≡ cube ++ l ∷ []
  narrowed_last [] lower = refl
  narrowed_last (m ∷ ms) lower = narrowed-after l m ms lower.0 ∙ ap (λ ls. m ∷ ls) (narrowed_last ms lower.1)

  -- if no literal is on the variable or above, the literal is put last
  pub narrowed-last : (cube : List Literal) → position (from_variable l.variable) cube ≡ None →
      narrowed_by l cube ≡ cube ++ l ∷ []
  narrowed-last cube none_found = narrowed_last cube
      (all_lower l.variable cube (not_found (position_or_len (from_variable l.variable) cube) (length cube) none_found))

  -- if the literal at the place is on l's variable, it is replaced by what both have in common
  pub narrowed-set : (cube : List Literal) (i : ℕ) (d : Literal) → IsPlace l.variable cube i →
      (slice_index_or cube i d).variable ≡ l.variable →
      narrowed_by l cube ≡ slice_set cube i (meet_literal l (slice_index_or cube i d))
  narrowed-set [] i d place same = absurd place
  narrowed-set (m ∷ ms) zero d place same = narrowed-here l m ms (sym same)
  narrowed-set (m ∷ ms) (suc i) d place same = narrowed-after l m ms place.0
      ∙ ap (λ ls. m ∷ ls) (narrowed-set ms i d place.1 same)

  -- if the literal at the place is on another variable, which is above l's, l is put in before it
  pub narrowed-in : (cube : List Literal) (i : ℕ) (d : Literal) → IsPlace l.variable cube i →
      ((slice_index_or cube i d).variable ≡ l.variable → ⊥) →
      narrowed_by l cube ≡ insert cube i l
  -- by induction on the literals, and by whether `l.variable` is below `m.variable`
  narrowed-in [] i d place other = absurd place
  narrowed-in (m ∷ ms) zero d place other = narrowed-before l m ms
      (let at_most_m : l.variable ≤ m.variable = place in
      ⊎_elim (λ (below : l.variable < m.variable). below)
      (λ (above : m.variable ≤ l.variable). absurd (other (omega arith)))
      (cases_lt l.variable m.variable))
  narrowed-in (m ∷ ms) (suc i) d place other = narrowed-after l m ms place.0
      ∙ ap (λ ls. m ∷ ls) (narrowed-in ms i d place.1 other)
