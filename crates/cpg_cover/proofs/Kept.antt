-- A list that keeps the cubes that meet a cube leaves the same of it; and taking one cube out of a list.
use Rattle.std.proofs.Common.{ℕ, zero, suc, ◌+◌, ◌<◌, ◌≤◌, ◌≡◌, Bool, true, false, not, ◌&&◌, ◌||◌, List, [], ◌∷◌, ◌++◌}
use Rattle.std.proofs.Common.{length, get_or, take, drop, map, arith, refl, sym, ap, ◌∙◌, ⊎_elim}
use Rattle.std.specs.Prelude.{remove, slice_index_or, All}
use Rattle.std.specs.List.{list_all, list_any}
use Rattle.std.proofs.Math.Bool.{and-true, or-false}
use Rattle.std.proofs.lemmas.Bool.{cases_Bool}
use Rattle.std.proofs.lemmas.List.{take_more}
use Rattle.std.proofs.lemmas.List.Elements.{All-append, All-take, All-drop}
use Rattle.std.proofs.lemmas.List.Folds.{list_all-append, list_any-append}
use Rattle.cpg_base.specs.Scenario.{Scenario}
use Rattle.cpg_cube.specs.Cube.{IsRising, matches}
use Rattle.cpg_cube.specs.declared.literal.Literal.{Literal}
use Rattle.cpg_cube.proofs.Mapped.{any_map}
use Rattle.cpg_cover.specs.Cover.{is_left}

-- if the cubes of xs and those of ys match s alike whenever the cube does, both leave s of the cube or neither does
pub left_same : {X : Type 0} (f : X → List Literal) (xs ys : List X) (cube : List Literal) (s : Scenario) →
    (matches cube s ≡ true → list_any (λ b. matches (f b) s) xs ≡ list_any (λ b. matches (f b) s) ys)
    → is_left (map f xs) cube s ≡ is_left (map f ys) cube s
-- by whether the cube matches: if it does, both lists match alike, and if not, nothing is left by either
left_same f xs ys cube s alike = ⊎_elim
    (λ (matched : matches cube s ≡ true). ap (λ u. matches cube s && not u)
    (any_map (λ b. matches b s) f xs ∙ alike matched ∙ sym (any_map (λ b. matches b s) f ys)))
    (λ (unmatched : matches cube s ≡ false). ap (λ m. m && not (list_any (λ b. matches b s) (map f xs))) unmatched
    ∙ sym (ap (λ m. m && not (list_any (λ b. matches b s) (map f ys))) unmatched))
    (cases_Bool (matches cube s))

-- given: a test of elements. Below, `kept` are elements kept of the first i of `by`, and the next one stands at place
-- i.
module _ {X : Type 0} (test : X → Bool) where
  -- with the next element kept, too, the test passes for some kept element as it does for some of the first i + 1
  pub kept_push : (kept by : List X) (i : ℕ) (d : X) → i < length by → list_any test kept ≡ list_any test (take i by) →
      list_any test (kept ++ get_or by i d ∷ []) ≡ list_any test (take (i + 1) by)
  kept_push kept by i d inside so_far =
      list_any-append test kept (get_or by i d ∷ []) ∙ ap (λ x. x || list_any test (get_or by i d ∷ [])) so_far
      ∙ sym (list_any-append test (take i by) (get_or by i d ∷ [])) ∙
      sym (ap (list_any test) (take_more by i d inside))

  -- if the test fails for the next element, it passes for some kept element as it does for some of the first i + 1
  pub kept_skip : (kept by : List X) (i : ℕ) (d : X) → i < length by → test (get_or by i d) ≡ false →
      list_any test kept ≡ list_any test (take i by) →
      list_any test kept ≡ list_any test (take (i + 1) by)
  kept_skip kept by i d inside fails so_far = so_far ∙ sym (or-false (list_any test (take i by)))
      ∙ ap (λ x. list_any test (take i by) || x) (sym (or-false (test (get_or by i d)) ∙ fails))
      ∙ sym (list_any-append test (take i by) (get_or by i d ∷ [])) ∙ sym (ap (list_any test) (take_more by i d inside))

  -- with the next element kept, too, the test passes for all that are kept as it does for all of the first i + 1
  pub all_push : (kept by : List X) (i : ℕ) (d : X) → i < length by → list_all test kept ≡ list_all test (take i by) →
      list_all test (kept ++ get_or by i d ∷ []) ≡ list_all test (take (i + 1) by)
  all_push kept by i d inside so_far =
      list_all-append test kept (get_or by i d ∷ []) ∙ ap (λ x. x && list_all test (get_or by i d ∷ [])) so_far
      ∙ sym (list_all-append test (take i by) (get_or by i d ∷ [])) ∙
      sym (ap (list_all test) (take_more by i d inside))

  -- if the test passes for the next element, it passes for all that are kept as it does for all of the first i + 1
  pub all_skip : (kept by : List X) (i : ℕ) (d : X) → i < length by → test (get_or by i d) ≡ true →
      list_all test kept ≡ list_all test (take i by) →
      list_all test kept ≡ list_all test (take (i + 1) by)
  all_skip kept by i d inside passes so_far = so_far ∙ sym (and-true (list_all test (take i by)))
      ∙ ap (λ x. list_all test (take i by) && x) (sym (and-true (test (get_or by i d)) ∙ passes))
      ∙ sym (list_all-append test (take i by) (get_or by i d ∷ [])) ∙ sym (ap (list_all test) (take_more by i d inside))

  -- some element passes exactly if the one at a place does or one of the others
  pub taken_out : (xs : List X) (i : ℕ) (d : X) → i < length xs →
      list_any test xs ≡ (test (get_or xs i d) || list_any test (remove xs i))
  taken_out [] i d inside = absurd (omega arith)
  taken_out (x ∷ xs) zero d inside = refl
  taken_out (x ∷ xs) (suc i) d inside = ap (λ b. test x || b) (taken_out xs i d (omega arith))
      ∙ turn (test x) (test (get_or xs i d)) (list_any test (remove xs i))
    where
      -- of three tests joined by `or` the first two may change places
      turn : (a b c : Bool) → (a || (b || c)) ≡ (b || (a || c))
      turn true true c = refl
      turn true false c = refl
      turn false true c = refl
      turn false false c = refl

-- what holds for all elements holds for all but one
pub all_removed : {X : Type 0} (P : X → Type 0) (xs : List X) (i : ℕ) → All P xs → All P (remove xs i)
all_removed P xs i all = All-append P (take i xs) (drop (suc i) xs) (All-take P i xs all) (All-drop P (suc i) xs all)

-- what holds for all images holds for the image of each element
pub all_unmapped : {X Y : Type 0} (P : Y → Type 0) (f : X → Y) (xs : List X) → All P (map f xs) → All (λ x. P (f x)) xs
all_unmapped P f [] all k d inside = absurd (omega arith)
all_unmapped P f (x ∷ xs) all zero d inside = all 0 (f x) (omega arith)
all_unmapped P f (x ∷ xs) all (suc k) d inside =
    all_unmapped P f xs (λ j e within. all (suc j) e (omega arith)) k d (omega arith)

-- ---- a rising list is short

-- in a rising list of literals no variable is less than its place
rising_place : (ls : List Literal) (i : ℕ) (d : Literal) → IsRising ls → i < length ls →
    i ≤ (slice_index_or ls i d).variable
-- by induction on `i`
rising_place ls zero d rises inside = omega arith
rising_place ls (suc i) d rises inside =
    let before = rising_place ls i d rises (omega arith) in
    let less = rises i (suc i) d (omega arith) inside in
    omega arith

-- a rising cube has at most 256 literals
pub rising_short : (ls : List Literal) (d : Literal) → IsRising ls →
    ((i : ℕ) → i < length ls → (slice_index_or ls i d).variable < 256) → length ls ≤ 256
rising_short [] d rises small = omega arith
rising_short (l ∷ ls) d rises small =
    let place_small = rising_place (l ∷ ls) (length ls) d rises (omega arith) in
    let variable_small = small (length ls) (omega arith) in
    omega arith
