-- The places of processes in an order: what comes before another has a lower place, and of two one comes first.
use Rattle.std.proofs.Common.{◌⊎◌, inl, inr, ◌≢◌, ℕ, ◌<◌, ◌≤◌, ◌≡◌, true, cond, ◌==◌, List, [], ◌∷◌, ◌++◌, length}
use Rattle.std.proofs.Common.{get_or, Contains, IsPermutation, position, Some, None, unwrap_or, arith, refl, sym}
use Rattle.std.proofs.Common.{ap, ◌∙◌, subst, ⊎_elim, lt-ltb, le-ltb, eq-eqb, eqb-true, length-take}
use Rattle.std.specs.List.{position_or_len, AllPairs}
use Rattle.std.proofs.lemmas.Bool.{both_ways, cases_lt, cases_order}
use Rattle.std.proofs.lemmas.List.{get_or-take, get_or_default}
use Rattle.std.proofs.lemmas.List.Sums.{fails_before_first, passes_at_first}
use Rattle.std.proofs.lemmas.List.Sorted.{length_permutation, Contains-permutation, IsPermutation-sym}
use Rattle.std.proofs.lemmas.List.FromFn.{length-range_with_len}
use Rattle.std.proofs.lemmas.List.Elements.{Contains-append_cases, Contains-get_or}
use Rattle.cpg_base.specs.Numbers.{numbers_below}
use Rattle.cpg_base.specs.Graph.{Graph, node_of}
use Rattle.cpg_base.proofs.Lists.{Contains-nil, Contains-cases, Contains-filter_parts, list_any_parts, list_any_true}
use Rattle.cpg_base.proofs.Lists.{numbers-Contains, Contains-numbers}
use Rattle.cpg_base.specs.Order.{place, before, before_on_node, comes_before}

-- the first place is at or before each place
first_le : (xs : List ℕ) (x k : ℕ) → get_or xs k x ≡ x → position_or_len (λ q. q == x) xs ≤ k
first_le xs x k is_x = ⊎_elim
    (λ (sooner : k < position_or_len (λ q. q == x) xs).
    absurd (both_ways _ (fails_before_first (λ q. q == x) xs k x sooner) (eq-eqb _ _ is_x)))
    (λ (not_sooner : position_or_len (λ q. q == x) xs ≤ k). not_sooner)
    (cases_lt k (position_or_len (λ q. q == x) xs))

-- the place of an element that is there is the first at which it stands
place_first : (xs : List ℕ) (x : ℕ) → Contains xs x → place xs x ≡ position_or_len (λ q. q == x) xs
place_first xs x within =
    let not_past = first_le xs x within.0 within.2 in
    ap (λ b. unwrap_or (cond b (Some (position_or_len (λ q. q == x) xs)) None) 0)
    (lt-ltb (position_or_len (λ q. q == x) xs) (length xs) (omega arith))

-- the place of a number of a list is its position
pub position-place : (xs : List ℕ) (x : ℕ) → Contains xs x → position (λ q. q == x) xs ≡ Some (place xs x)
position-place xs x within =
    let place_is = place_first xs x within in
    let not_past = first_le xs x within.0 within.2 in
    ap (λ b. cond b (Some (position_or_len (λ q. q == x) xs)) None)
    (lt-ltb (position_or_len (λ q. q == x) xs) (length xs) (omega arith)) ∙ ap Some (sym place_is)

-- the place of a number is at or before each place at which it stands
pub place-le : (xs : List ℕ) (x k : ℕ) → k < length xs → get_or xs k x ≡ x → place xs x ≤ k
place-le xs x k inside is_x =
    let place_is = place_first xs x (k, inside, is_x) in let not_past = first_le xs x k is_x in omega arith

-- the place of a number of a list is below its length
pub place-lt : (xs : List ℕ) (x : ℕ) → Contains xs x → place xs x < length xs
place-lt xs x within = let not_past = place-le xs x within.0 within.1 within.2 in omega arith

-- at the place of a number stands the number
pub get_or-place : (xs : List ℕ) (x d : ℕ) → Contains xs x → get_or xs (place xs x) d ≡ x
get_or-place xs x d within =
    let place_is = place_first xs x within in
    let inside : position_or_len (λ q. q == x) xs < length xs = omega (arith, place-lt xs x within) in
    ap (λ k. get_or xs k d) place_is ∙ eqb-true _ _ (passes_at_first (λ q. q == x) xs d inside)

-- two numbers with the same place are the same
pub same_place : (xs : List ℕ) (x y : ℕ) → Contains xs x → Contains xs y → place xs x ≡ place xs y → x ≡ y
same_place xs x y x_within y_within same =
    sym (get_or-place xs x 0 x_within) ∙ ap (λ k. get_or xs k 0) same ∙ get_or-place xs y 0 y_within

-- the place of a number is below the length of a list, also if the number is not there
pub place-below : (xs : List ℕ) (x : ℕ) → 0 < length xs → place xs x < length xs
place-below xs x some = ⊎_elim
    (λ (found : position_or_len (λ q. q == x) xs < length xs). subst
    (λ b. unwrap_or (cond b (Some (position_or_len (λ q. q == x) xs)) None) 0 < length xs)
    (sym (lt-ltb _ _ found)) found)
    (λ (missing : length xs ≤ position_or_len (λ q. q == x) xs). subst
    (λ b. unwrap_or (cond b (Some (position_or_len (λ q. q == x) xs)) None) 0 < length xs)
    (sym (le-ltb _ _ missing)) some)
    (cases_lt (position_or_len (λ q. q == x) xs) (length xs))

-- What stands before a number is in the list, at a lower place.
-- It is at some place of the front, and its first place is no later.
pub from_before : (xs : List ℕ) (x y : ℕ) → Contains (before xs y) x → (Contains xs x) × (place xs x < place xs y)
from_before xs x y in_front =
    let front_length = length-take (place xs y) xs in
    let inside : in_front.0 < length xs = omega arith in
    let early : in_front.0 < place xs y = omega arith in
    let at : get_or xs in_front.0 x ≡ x = sym (get_or-take (place xs y) xs in_front.0 x early) ∙ in_front.2 in
    let place_early = place-le xs x in_front.0 inside at in
    ((in_front.0, inside, at), omega arith)

-- what is in the list at a lower place than a number stands before it
pub Contains-before : (xs : List ℕ) (x y : ℕ) → Contains xs x → place xs x < place xs y → Contains (before xs y) x
Contains-before xs x y within lower =
    let front_length = length-take (place xs y) xs in
    let inside = place-lt xs x within in
    (place xs x, omega arith, get_or-take (place xs y) xs (place xs x) x lower ∙ get_or-place xs x x within)

-- what comes before a number has a lower place
pub places_from_comes_before : (xs : List ℕ) (x y : ℕ) → comes_before xs x y ≡ true → place xs x < place xs y
places_from_comes_before xs x y earlier =
    let found = list_any_parts (λ z. z == x) (before xs y) earlier in
    (from_before xs x y (subst (Contains (before xs y)) (eqb-true _ _ found.2) found.1)).1

-- what comes before a number is in the list
pub before_contains : (xs : List ℕ) (x y : ℕ) → comes_before xs x y ≡ true → Contains xs x
before_contains xs x y earlier =
    let found = list_any_parts (λ z. z == x) (before xs y) earlier in
    (from_before xs x y (subst (Contains (before xs y)) (eqb-true _ _ found.2) found.1)).0

-- what stands before a number comes before it
pub comes_before_from : (xs : List ℕ) (x y : ℕ) → Contains (before xs y) x → comes_before xs x y ≡ true
comes_before_from xs x y in_front = list_any_true (λ z. z == x) (before xs y) x in_front (eq-eqb x x refl)

-- what is in the list at a lower place than a number comes before it
pub comes_before_from_places : (xs : List ℕ) (x y : ℕ) → Contains xs x → place xs x < place xs y →
    comes_before xs x y ≡ true
comes_before_from_places xs x y within lower = comes_before_from xs x y (Contains-before xs x y within lower)

-- one of two numbers comes before the other
pub apart : (xs : List ℕ) (x y : ℕ) → Contains xs x → Contains xs y → x ≢ y →
    Contains (before xs y) x ⊎ Contains (before xs x) y
apart xs x y x_within y_within different = elim (cases_order (place xs x) (place xs y)) [
  | inl same ↦ absurd (different (same_place xs x y x_within y_within same))
  | inr (inl lower) ↦ inl (Contains-before xs x y x_within lower)
  | inr (inr lower) ↦ inr (Contains-before xs y x y_within lower)
]

-- The places in a list without repeats rise.
-- The place of each element is where it stands, since it stands nowhere before.
pub places_rise : (xs : List ℕ) → AllPairs (λ x y. x ≢ y) xs → AllPairs (λ x y. place xs x < place xs y) xs
places_rise xs apart i j d i_before_j j_inside =
    let not_past = place-le xs (get_or xs i d) i (omega arith) (get_or_default xs i (get_or xs i d) d (omega arith)) in
    ⊎_elim
    (λ (sooner : place xs (get_or xs j d) < j). absurd
    (apart (place xs (get_or xs j d)) j d sooner j_inside
    (get_or-place xs (get_or xs j d) d (Contains-get_or xs j d j_inside))))
    (λ (not_sooner : j ≤ place xs (get_or xs j d)). omega arith)
    (cases_lt (place xs (get_or xs j d)) j)

-- ---- an order of all the numbers below n

-- given: an order of all the numbers below n
module _ (n : ℕ) (order : List ℕ) (all : IsPermutation (numbers_below n) order) where
  -- an order of the numbers below n has n of them
  pub length_order : length order ≡ n
  length_order = length_permutation (numbers_below n) order all ∙ length-range_with_len 0 n

  -- each place is below n
  pub place_in_order : (p : ℕ) → 0 < n → place order p < n
  place_in_order p some = let length_is = length_order in let inside = place-below order p (omega arith) in omega arith

  -- each number below n is in the order
  pub Contains-order : (p : ℕ) → p < n → Contains order p
  Contains-order p below = Contains-permutation (numbers_below n) order p all (Contains-numbers n p below)

  -- each number of the order is below n
  pub from_order : (p : ℕ) → Contains order p → p < n
  from_order p within = numbers-Contains n p
      (Contains-permutation order (numbers_below n) p (IsPermutation-sym (numbers_below n) order all) within)

-- ---- the processes of a node up to one

-- a process before another on its node stands before it in the order
pub on_node_before : (g : Graph) (order : List ℕ) (p q : ℕ) → Contains (before_on_node g order p) q →
    Contains order q × (place order q < place order p)
on_node_before g order p q on_node =
    from_before order q p (Contains-filter_parts (λ (r : ℕ). node_of g r == node_of g p) (before order p) q on_node).0

-- a process up to another on its node stands no later in the order
pub not_later : (g : Graph) (order : List ℕ) (p q : ℕ) → Contains (before_on_node g order p ++ p ∷ []) q →
    place order q ≤ place order p
not_later g order p q listed = ⊎_elim
    (λ (earlier : Contains (before_on_node g order p) q). let parts = on_node_before g order p q earlier in omega arith)
    (λ (in_last : Contains (p ∷ []) q). ⊎_elim (λ (is_p : p ≡ q). let same = ap (place order) is_p in omega arith)
    (λ (nothing : Contains [] q). absurd (Contains-nil q nothing)) (Contains-cases p [] q in_last))
    (Contains-append_cases (before_on_node g order p) (p ∷ []) q listed)
