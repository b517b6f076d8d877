-- Columns sorted by their keys are sorted by their cubes' lows along the order, and the first column by keys is the
-- first by lows.
use Rattle.std.proofs.lemmas.List.Elements.{All-tail, Contains-get_or}
use Rattle.cpg_base.proofs.Lists.{numbers-Contains}
use Rattle.std.proofs.Common.{Ordering, Less, Equal, Greater, ℕ, suc, ◌+◌, ◌-◌, ◌*◌, ◌<◌, ◌≤◌, ◌≡◌, ◌≢◌, ◌==◌, Bool}
use Rattle.std.proofs.Common.{true, false, List, [], ◌∷◌, ◌++◌, length, subst, map, get_or, All, Option, None}
use Rattle.std.proofs.Common.{Some, IsPermutation, nat_lt, if◌then◌else◌, arith, refl, sym, ap, ap₂, ◌∙◌, inl, inr}
use Rattle.std.proofs.Common.{eq-eqb, ne_eqb, lt-ltb, le-ltb, length-append}
use Rattle.std.proofs.lemmas.Bool.{cases_Bool, cases_eq, cases_lt, cases_order, cond-true, cond-false, both_ways}
use Rattle.std.proofs.lemmas.Bool.{false_from_ne_true}
use Rattle.std.specs.Ordering.{nat_cmp, is_lt, ordering_then}
use Rattle.std.specs.Cmp.{IsStrictWeakOrder}
use Rattle.std.specs.Cmp.Lexicographic.{slice_cmp}
use Rattle.std.specs.List.Sorted.{IsSortedBy}
use Rattle.std.proofs.lemmas.Cmp.{nat_list_cmp_total}
use Rattle.std.proofs.lemmas.List.Sorted.{ranks_by, sorted_far, All-permutation, IsPermutation-refl}
use Rattle.std.proofs.lemmas.List.{length-map, map-append}
use Rattle.cpg_cube.specs.Cube.{Literal, low_in}
use Rattle.cpg_base.specs.Graph.{Graph, condition_of}
use Rattle.cpg_base.specs.Numbers.{is_below, numbers_below}
use Rattle.cpg_base.proofs.Below.{below_irreflexive, below_one_way, not_below_transitive, below-cons_less}
use Rattle.cpg_base.proofs.Keyed.{cmp_less, cmp_same}
use Rattle.cpg_base.proofs.Pairs.{AllPairs-map}
use Rattle.cpg_cube.specs.Keys.{low_of_value, lows_of, lows_along, AreByLows, IsFirstByLows, IsFirstByKeys}
use Rattle.cpg_cube.specs.Keys.{variable_of_value, variables_of, variables_along, asked_from, key_along, key_by}
use Rattle.cpg_cube.specs.Keys.{AreBytes}
use Rattle.cpg_cube.specs.Keys.{IsKeyOf}
use Rattle.cpg_cube.specs.declared.sorting.Ranked.{Ranked}
use Rattle.cpg_cube.specs.declared.sorting.Placed.{Placed}

-- whether the key of the first column comes before that of the second
abbrev pub is_key_below : {T : Type 0} → Ranked T → Ranked T → Bool
is_key_below a b = is_lt (slice_cmp nat_cmp a.key.items b.key.items)

-- keys are compared by a strict weak order
pub is_total : {T : Type 0} → IsStrictWeakOrder (is_key_below {T = T})
is_total {T} = ranks_by nat_list_cmp_total (λ (r : Ranked T). r.key.items)

-- ---- keys tell the order of the lows that they are made of

-- a greater number is compared as such
cmp_more : (x y : ℕ) → y < x → nat_cmp x y ≡ Greater
cmp_more x y more = cond-false (nat_lt x y) Less _ (le-ltb x y (omega (arith, more)))
    ∙ cond-false (x == y) Equal Greater (ne_eqb x y (λ equal. omega (arith, equal, more)))

-- a low of 0 adds nothing to a key
pub asked_zero : (left x : ℕ) (xs : List ℕ) → x ≡ 0 → asked_from left (x ∷ xs) ≡ asked_from (left - 1) xs
asked_zero left x xs is_zero = cond-true (x == 0) _ _ (eq-eqb x 0 is_zero)

-- a low above 0 adds itself and how many places are left, as one number
pub asked_some : (left x : ℕ) (xs : List ℕ) → x ≢ 0 →
    asked_from left (x ∷ xs) ≡ (left * 256 + x) ∷ asked_from (left - 1) xs
asked_some left x xs not_zero = cond-false (x == 0) _ _ (ne_eqb x 0 not_zero)

-- lists with the same first number are compared by the rest
pub same_first : (x : ℕ) (xs ys : List ℕ) → is_below (x ∷ xs) (x ∷ ys) ≡ is_below xs ys
same_first x xs ys = ap (λ (o : Ordering). is_lt (ordering_then o (slice_cmp nat_cmp xs ys))) (cmp_same x x refl)

-- if x is greater than y, a list that begins with x isn't below one that begins with y
pub more_first : (x y : ℕ) (xs ys : List ℕ) → y < x → is_below (x ∷ xs) (y ∷ ys) ≡ false
more_first x y xs ys more = ap (λ (o : Ordering). is_lt (ordering_then o (slice_cmp nat_cmp xs ys))) (cmp_more x y more)

-- given: the lows of two cubes, of which the first are bytes
module _ (low high : ℕ → ℕ) (bytes : (v : ℕ) → low v < 256) where
  -- a key whose numbers all have fewer places left comes before one that begins with a number above these
  later_below : (left : ℕ) (vs : List ℕ) (first : ℕ) (rest : List ℕ) → left * 256 + 255 < first →
      is_below (asked_from left (map low vs)) (first ∷ rest) ≡ true
  -- by induction on the numbers, and by whether `low v` is 0
  later_below left [] first rest above = refl
  later_below left (v ∷ vs) first rest above = elim (cases_eq (low v) 0) [
    | inl is_zero ↦ ap (λ (k : List ℕ). is_below k (first ∷ rest)) (asked_zero left (low v) (map low vs) is_zero)
        ∙ later_below (left - 1) vs first rest (omega (arith, above))
    | inr not_zero ↦ ap (λ (k : List ℕ). is_below k (first ∷ rest)) (asked_some left (low v) (map low vs) not_zero) ∙
        below-cons_less (left * 256 + low v) first (asked_from (left - 1) (map low vs)) rest
        (omega (arith, above, bytes v))
  ]

  -- if the lows are before the highs as lists, the numbers of their keys are too; by induction on the variables
  asked_below : (left : ℕ) (vs : List ℕ) → length vs ≤ left → is_below (map low vs) (map high vs) ≡ true →
      is_below (asked_from left (map low vs)) (asked_from left (map high vs)) ≡ true
  asked_below left [] few below = below
  asked_below left (v ∷ vs) few below =
      let x = low v in
      let y = high v in
      let xs = map low vs in
      let ys = map high vs in
      let later_xs = asked_from (left - 1) xs in
      let later_ys = asked_from (left - 1) ys in
      elim (cases_order x y) [
        -- the first numbers are the same, so the later ones decide; zeros aren't written
        | inl same ↦
            let inner : is_below later_xs later_ys ≡ true = asked_below (left - 1) vs (omega (arith, few))
            (sym (same_first x xs ys) ∙ ap (λ w. is_below (x ∷ xs) (w ∷ ys)) same ∙ below) in
            elim (cases_eq x 0) [
              | inl is_zero ↦ ap₂ is_below (asked_zero left x xs is_zero) (asked_zero left y ys (sym same ∙ is_zero))
                  ∙ inner
              | inr not_zero ↦ ap₂ is_below (asked_some left x xs not_zero)
                  (asked_some left y ys (λ is_zero. not_zero (same ∙ is_zero))
                  ∙ ap (λ w. (left * 256 + w) ∷ later_ys) (sym same))
                  ∙ same_first (left * 256 + x) later_xs later_ys ∙ inner
            ]
        -- the first list has the lower number, or a zero that isn't written
        | inr (inl less) ↦
            let there : asked_from left (y ∷ ys) ≡ (left * 256 + y) ∷ later_ys =
            asked_some left y ys (λ is_zero. omega (arith, less, is_zero)) in
            elim (cases_eq x 0) [
              | inl is_zero ↦ ap₂ is_below (asked_zero left x xs is_zero) there
                  ∙ later_below (left - 1) vs (left * 256 + y) later_ys (omega (arith, few, less))
              | inr not_zero ↦ ap₂ is_below (asked_some left x xs not_zero) there
                  ∙ below-cons_less (left * 256 + x) (left * 256 + y) later_xs later_ys (omega (arith, less))
            ]
        -- the other way is excluded
        | inr (inr more) ↦ absurd (both_ways (is_below (x ∷ xs) (y ∷ ys)) (more_first x y xs ys more) below)
      ]

-- the low of a variable is that of a literal, or 0
pub low_in-byte : (cube : List Literal) → AreBytes cube → (v : ℕ) → low_in cube v < 256
-- by induction on the literals, and by whether `l.variable` is `v`
low_in-byte [] bytes v = omega arith
low_in-byte (l ∷ ls) bytes v = elim (cases_eq l.variable v) [
  | inl same ↦ subst (λ n. n < 256) (sym (cond-true (l.variable == v) l.low (low_in ls v) (eq-eqb l.variable v same)))
      (bytes 0 l (omega arith))
  | inr other ↦ subst (λ m. m < 256)
      (sym (cond-false (l.variable == v) l.low (low_in ls v) (ne_eqb l.variable v other)))
      (low_in-byte ls (All-tail (λ (m : Literal). m.low < 256) l ls bytes) v)
]

-- ---- a row has as many lows for all cubes

-- a process has the low of one value at most
one_or_two : (low : ℕ → ℕ) (o : Option ℕ) → length (low_of_value low o) ≤ 1
one_or_two low None = omega arith
one_or_two low (Some v) = omega arith

-- with its count it has two lows at most
few_lows : (g : Graph) (low : ℕ → ℕ) (p : ℕ) → length (lows_of g low p) ≤ 2
few_lows g low p = omega (arith, one_or_two low (condition_of g p))

-- an order has at most two lows for each process
twice_long : (g : Graph) (order : List ℕ) (low : ℕ → ℕ) → length (lows_along g order low) ≤ length order * 2
twice_long g [] low = omega arith
twice_long g (p ∷ ps) low =
    omega (arith, length-append (lows_of g low p) (lows_along g ps low), few_lows g low p, twice_long g ps low)

-- ---- the variables along an order

-- the low of a condition's variable is that of the value, if there is a condition
low_of_variable : (low : ℕ → ℕ) (o : Option ℕ) → map low (variable_of_value o) ≡ low_of_value low o
low_of_variable low None = refl
low_of_variable low (Some c) = refl

-- the lows by the variables along an order are the lows along the order
pub lows_by_variable : (g : Graph) (order : List ℕ) (low : ℕ → ℕ) →
    map low (variables_along g order) ≡ lows_along g order low
lows_by_variable g [] low = refl
lows_by_variable g (p ∷ ps) low = map-append low (variables_of g p) (variables_along g ps) ∙
    ap₂ ◌++◌ (ap (λ (xs : List ℕ). low p ∷ xs) (low_of_variable low (condition_of g p))) (lows_by_variable g ps low)

-- an order of at most 128 processes has at most 256 variables along it
pub few_variables : (g : Graph) (order : List ℕ) → length order ≤ 128 → length (variables_along g order) ≤ 256
few_variables g order few = omega (
  arith,
  sym (length-map (variables_along g order) (λ (v : ℕ). v)) ∙ ap length (lows_by_variable g order (λ v. v)),
  twice_long g order (λ v. v),
  few,
)

-- ---- the first by keys

-- the key of a cube by the variables along an order
pub key_is : (g : Graph) (order variables : List ℕ) → variables ≡ variables_along g order → (cube : List Literal) →
    key_by variables cube ≡ key_along g order (low_in cube)
key_is g order variables along cube =
    ap (λ (vs : List ℕ). key_by vs cube) along ∙ ap (asked_from 256) (lows_by_variable g order (low_in cube))

-- if the key of cube a along the order isn't below that of cube b, the lows of a along the order aren't below those
-- of b
pub lows_from_keys : (g : Graph) (order : List ℕ) → length order ≤ 128 → (a b : List Literal) → AreBytes a →
    is_below (key_along g order (low_in a)) (key_along g order (low_in b)) ≡ false →
    is_below (lows_along g order (low_in a)) (lows_along g order (low_in b)) ≡ false
-- if a's lows were below b's, a's key would be below b's (`asked_below`)
lows_from_keys g order few a b bytes h =
    let along = lows_by_variable g order in
    false_from_ne_true _ (λ below. both_ways _ h (
    ap₂ (λ (xs ys : List ℕ). is_below (asked_from 256 xs) (asked_from 256 ys)) (sym (along (low_in a)))
    (sym (along (low_in b)))
    ∙ asked_below (low_in a) (low_in b) (low_in-byte a bytes) 256 (variables_along g order) (few_variables g order few)
    (ap₂ is_below (along (low_in a)) (along (low_in b)) ∙ below)))

-- given: columns, each of which has a cube
module _ {T : Type 0} (cube : T → List Literal) (columns : List T) where
  -- the first column by the keys along an order is the first by the lows along it
  pub first_by_lows : (g : Graph) (order variables : List ℕ) → length order ≤ 128 →
      variables ≡ variables_along g order → (at : ℕ) →
      IsFirstByKeys cube variables (length columns) columns at →
      IsFirstByLows cube g order columns at
  first_by_lows g order variables few along at by_keys = record {
    there = by_keys.there;
    first = λ j d below. lows_from_keys g order few (cube (get_or columns j d)) (cube (get_or columns at d))
        (by_keys.bytes j d below)
        (ap₂ is_below (sym (key_is g order variables along (cube (get_or columns j d))))
        (sym (key_is g order variables along (cube (get_or columns at d)))) ∙ by_keys.first j d below);
  }

  -- given: the variables by which keys are made
  module _ (variables : List ℕ) where
    -- the key of a column at a place
    abbrev key_at : ℕ → T → List ℕ
    key_at j d = key_by variables (cube (get_or columns j d))

    -- of one column alone, it is the first by keys
    pub first_alone : ((d : T) → AreBytes (cube (get_or columns 0 d))) → IsFirstByKeys cube variables 1 columns 0
    first_alone bytes = record {
      there = omega arith;
      first = λ j d below. subst (λ i. is_below (key_at i d) (key_at 0 d) ≡ false)
          (let same : 0 ≡ j = omega (arith, below) in same) (below_irreflexive (key_at 0 d));
      bytes =
          λ j d below. subst (λ i. AreBytes (cube (get_or columns i d)))
          (let same : 0 ≡ j = omega (arith, below) in same) (bytes d);
    }

    -- `best` is the first of the first n columns by their keys
    pub record IsBest (n : ℕ) (best : Placed) : Type 0 where
      -- its place is that of the first of them by keys
      pub first : IsFirstByKeys cube variables n columns best.place
      -- its key is that of the column there
      pub key : (d : T) → best.key.items ≡ key_at best.place d

    -- the best of the first n columns, and the next one with its key
    module _ (n : ℕ) (best next : Placed) (is_best : IsBest n best) (at : next.place ≡ n)
        (key : (d : T) → IsKeyOf variables (cube (get_or columns next.place d)) next.key.items) where
      -- what holds for the first n columns and for the next one holds for all of these
      with_next : (i : ℕ) → ((j : ℕ) (d : T) → j < n → is_below (key_at j d) (key_at i d) ≡ false) →
          ((d : T) → is_below (key_at next.place d) (key_at i d) ≡ false) → (j : ℕ) (d : T) → j < n + 1 →
          is_below (key_at j d) (key_at i d) ≡ false
      -- a column is one of the first n, or the next one
      with_next i before after j d below = elim (cases_lt j n) [
        | inl earlier ↦ before j d earlier
        | inr later ↦ subst (λ o. is_below (key_at o d) (key_at i d) ≡ false) (let is_next : next.place ≡ j =
            omega (arith, below, later, at) in is_next) (after d)
      ]

      -- the lows of all these columns are bytes
      all_bytes : (j : ℕ) (d : T) → j < n + 1 → AreBytes (cube (get_or columns j d))
      -- a column is one of the first n, or the next one
      all_bytes j d below = elim (cases_lt j n) [
        | inl earlier ↦ is_best.first.bytes j d earlier
        | inr later ↦ subst (λ o. AreBytes (cube (get_or columns o d)))
            (let is_next : next.place ≡ j = omega (arith, below, later, at) in is_next) (key d).bytes
      ]

      -- if the next key isn't before the best one, the best column so far stays the best
      stays : is_below next.key.items best.key.items ≡ false → IsBest (n + 1) best
      stays not_before = record {
        first = record {
          there = omega (arith, is_best.first.there);
          first = with_next best.place is_best.first.first
              (λ d. ap₂ is_below (sym (key d).is) (sym (is_best.key d)) ∙ not_before);
          bytes = all_bytes;
        };
        key = is_best.key;
      }

      -- if the next key is before the best one, the next column is the best so far
      comes : is_below next.key.items best.key.items ≡ true → IsBest (n + 1) next
      -- no key of the first n is before the best one, which is no longer before the next one
      comes before = record {
        first = record {
          there = omega (arith, at);
          first = with_next next.place
              (λ j d below. not_below_transitive (key_at next.place d) (key_at best.place d) (key_at j d)
              (below_one_way (key_at next.place d) (key_at best.place d)
              (ap₂ is_below (sym (key d).is) (sym (is_best.key d)) ∙ before)) (is_best.first.first j d below))
              (λ d. below_irreflexive (key_at next.place d));
          bytes = all_bytes;
        };
        key = λ d. (key d).is;
      }

      -- the lesser of the best of n columns and the next column is the best of n + 1
      pub best_next : (new : Placed) → new ≡ (if is_below next.key.items best.key.items then next else best) →
          IsBest (n + 1) new
      best_next new is = elim (cases_Bool (is_below next.key.items best.key.items)) [
        | inl before ↦
            subst (IsBest (n + 1)) (sym (is ∙ cond-true (is_below next.key.items best.key.items) next best before))
            (comes before)
        | inr not_before ↦ subst (IsBest (n + 1))
            (sym (is ∙ cond-false (is_below next.key.items best.key.items) next best not_before)) (stays not_before)
      ]

-- ---- so columns that stand by keys stand by lows

-- columns sorted by their keys are sorted by their lows along the order
pub by_lows : {T : Type 0} (cube : T → List Literal) (g : Graph) (order variables : List ℕ) → length order ≤ 128 →
    variables ≡ variables_along g order →
    (before after : List (Ranked T)) →
    All (λ r. IsKeyOf variables (cube r.column) r.key.items) before → IsPermutation before after →
    IsSortedBy is_key_below after → AreByLows cube g order (map (λ r. r.column) after)
-- two columns that are sorted by their keys: these are the keys of their lows, so their lows are sorted too
by_lows {T} cube g order variables few along before after keys permuted up =
    AllPairs-map (λ (a b : Ranked T).
    is_below (lows_along g order (low_in (cube b.column))) (lows_along g order (low_in (cube a.column))) ≡ false)
    (λ (c d : T). is_below (lows_along g order (low_in (cube d))) (lows_along g order (low_in (cube c))) ≡ false)
    (λ (r : Ranked T). r.column) after (λ a b not_below. not_below)
    (λ i j d less inside.
    let cube_a = cube (get_or after i d).column in
    let cube_b = cube (get_or after j d).column in
    let all = All-permutation
    (λ (r : Ranked T). IsKeyOf variables (cube r.column) r.key.items) before after permuted keys in
    let key_a : (get_or after i d).key.items ≡ key_along g order (low_in cube_a) =
    (all i d (omega arith)).is ∙ key_is g order variables along cube_a in
    let key_b : (get_or after j d).key.items ≡ key_along g order (low_in cube_b) =
    (all j d inside).is ∙ key_is g order variables along cube_b in
    let sorted : is_below (key_along g order (low_in cube_b)) (key_along g order (low_in cube_a)) ≡ false =
    ap₂ is_below (sym key_b) (sym key_a) ∙ sorted_far is_key_below is_total after up i j d (omega arith) inside in
    lows_from_keys g order few cube_b cube_a (all j d inside).bytes sorted)

-- each process of an order is below how many there are
pub within_order : (n : ℕ) (order : List ℕ) → IsPermutation (numbers_below n) order → All (λ p. p < n) order
within_order n order permuted = All-permutation (λ p. p < n) (numbers_below n) order permuted
    (λ k d below. numbers-Contains n (get_or (numbers_below n) k d) (Contains-get_or (numbers_below n) k d below))

-- equal lists are permutations
pub permutation_of_equal : {T : Type 0} (xs ys : List T) → xs ≡ ys → IsPermutation xs ys
permutation_of_equal xs ys same = subst (IsPermutation xs) same (IsPermutation-refl xs)
