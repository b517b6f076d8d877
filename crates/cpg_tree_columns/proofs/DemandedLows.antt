-- The demands by the way down are those of the columns. Along the order the low of the last variable and the sum of
-- all lows tell what a narrowed cube asks.
use Rattle.std.proofs.Common.{ℕ, ◌+◌, ◌-◌, ◌*◌, ◌%◌, ◌^◌, ◌<◌, ◌≤◌, ◌≡◌, ◌≢◌, ◌==◌, max, List, [], ◌∷◌, ◌++◌, Option}
use Rattle.std.proofs.Common.{Some, None, map, reverse, get_or, sum_by, Contains, arith, refl, sym, ap, ap₂, subst, ◌∙◌}
use Rattle.std.proofs.Common.{inl, inr, eq-eqb, ne_eqb}
use Rattle.std.proofs.lemmas.Bool.{cases_eq, cases_order, cond-true, cond-false}
use Rattle.std.proofs.lemmas.List.{map-append, reverse-append}
use Rattle.std.proofs.lemmas.List.Sums.{sum_by-cons}
use Rattle.cpg_base.proofs.Lists.{Contains-cases}
use Rattle.cpg_cube.specs.declared.literal.Literal.{Literal}
use Rattle.cpg_cube.specs.Cube.{IsRising, low_in}
use Rattle.cpg_cube.specs.Keys.{ArePlaces, left_at}
use Rattle.cpg_cube.specs.Narrow.{meet_literal, narrowed_by}
use Rattle.cpg_cube.proofs.CubeLows.{low_in-later, low_in-none}
use Rattle.cpg_cube.proofs.Narrow.{narrowed-before, narrowed-here, narrowed-after, rising-narrowed}
use Rattle.cpg_cube.proofs.Narrowed.{low-other, low-same}
use Rattle.cpg_cube.proofs.Ranges.{rising_rest, rising_first, low_in-here}
use Rattle.cpg_merging.specs.Demands.{demand_of, low_of}
use Rattle.cpg_tree.specs.Paths.{up_to, above, paths_from}
use Rattle.cpg_tree.specs.TreeNode.{TreeNode, Leaf, Fork}
use Rattle.cpg_tree_columns.specs.declared.demanding.ForkSide.{ForkSide}
use Rattle.cpg_tree_columns.specs.Along.{AreForksAlong}
use Rattle.cpg_tree_columns.specs.Columns.{columns_of_paths}
use Rattle.cpg_tree_columns.specs.Demanded.{demands_by, first_side, low_above, low_so_far, side_above, side_below}
use Rattle.cpg_tree_columns.proofs.CountedTimes.{both_columns}

-- no literal of a cube is on a variable before its first
above_first : (v : ℕ) (m : Literal) (ms : List Literal) → IsRising (m ∷ ms) → v < m.variable → (x : Literal) →
    Contains (m ∷ ms) x → x.variable ≢ v
above_first v m ms rising less x listed same = elim (Contains-cases m ms x listed) [
  | inl is_first ↦ absurd (omega (arith, ap (λ (y : Literal). y.variable) is_first, less, same))
  | inr is_later ↦ absurd (omega (arith, rising_first m x ms rising is_later, less, same))
]

-- The sum of the lows of a narrowed cube: that of the cube, with the greater of the two lows in place of the
-- variable's own.
sum_narrowed : (l : Literal) (cube : List Literal) → IsRising cube →
    sum_by low_of (narrowed_by l cube) + low_in cube l.variable
    ≡ sum_by low_of cube + max l.low (low_in cube l.variable)
-- By induction on the cube: the literal comes before the first one, is on its variable, or goes on to the others.
sum_narrowed l [] rising = omega (arith, sum_by-cons low_of l [])
sum_narrowed l (m ∷ ms) rising = elim (cases_order l.variable m.variable) [
  | inl same ↦ omega (
    arith,
    ap (sum_by low_of) (narrowed-here l m ms same),
    sum_by-cons low_of (meet_literal l m) ms,
    sum_by-cons low_of m ms,
    low_in-here m ms l.variable (sym same),
  )
  | inr (inl before) ↦ omega (
    arith,
    ap (sum_by low_of) (narrowed-before l m ms before),
    sum_by-cons low_of l (m ∷ ms),
    low_in-none (m ∷ ms) l.variable (above_first l.variable m ms rising before),
  )
  | inr (inr after) ↦ omega (
    arith,
    ap (sum_by low_of) (narrowed-after l m ms after),
    sum_by-cons low_of m (narrowed_by l ms),
    sum_by-cons low_of m ms,
    low_in-later m ms l.variable (λ s. omega (arith, after, s)),
    sum_narrowed l ms (rising_rest m ms rising),
  )
]

-- ---- places

-- no variable has more places left than the first one of the order
few_left : (left : ℕ) (us : List ℕ) (v : ℕ) → left_at left us v ≤ left
-- by induction on the list
few_left left [] v = omega arith
few_left left (u ∷ us) v = elim (cases_eq u v) [
  | inl is_v ↦ omega (arith, cond-true (u == v) left (left_at (left - 1) us v) (eq-eqb u v is_v))
  | inr other ↦ omega (
    arith,
    cond-false (u == v) left (left_at (left - 1) us v) (ne_eqb u v other),
    few_left (left - 1) us v,
  )
]

-- two variables at which equally many places are left, and not none, are the same
left_apart : (left : ℕ) (us : List ℕ) (v w : ℕ) → left_at left us v ≡ left_at left us w → left_at left us w ≢ 0 → v ≡ w
-- by induction on the order: each is the first variable or among the others, at which fewer places are left
left_apart left [] v w as_many some_left = absurd (some_left refl)
left_apart left (u ∷ us) v w as_many some_left = elim (cases_eq u v) [
  | inl u_is_v ↦ elim (cases_eq u w) [
    | inl u_is_w ↦ sym u_is_v ∙ u_is_w
    | inr u_not_w ↦ absurd (some_left (omega (
      arith,
      as_many,
      cond-true (u == v) left (left_at (left - 1) us v) (eq-eqb u v u_is_v),
      cond-false (u == w) left (left_at (left - 1) us w) (ne_eqb u w u_not_w),
      few_left (left - 1) us w,
    )))
  ]
  | inr u_not_v ↦ elim (cases_eq u w) [
    | inl u_is_w ↦ absurd (some_left (omega (
      arith,
      as_many,
      cond-false (u == v) left (left_at (left - 1) us v) (ne_eqb u v u_not_v),
      cond-true (u == w) left (left_at (left - 1) us w) (eq-eqb u w u_is_w),
      few_left (left - 1) us v,
    )))
    | inr u_not_w ↦
        let of_v = cond-false (u == v) left (left_at (left - 1) us v) (ne_eqb u v u_not_v) in
        let of_w = cond-false (u == w) left (left_at (left - 1) us w) (ne_eqb u w u_not_w) in
        left_apart (left - 1) us v w (sym of_v ∙ as_many ∙ of_w) (λ z. some_left (of_w ∙ z))
  ]
]

-- ---- what is known on a way down is so of its cube

-- the demands of the columns of a tree that is entered with a cube
abbrev pub demands_from : ℕ → List Literal → TreeNode (Option ℕ) → List ℕ
demands_from k cube n = map demand_of (columns_of_paths (paths_from k cube n))

-- What is known of the way down, `side`, is right for the cube of that way.
pub record IsKnownOf (places : List ℕ) (side : ForkSide) (cube : List Literal) : Type 0 where
  -- variables behind the last fork's, at which fewer places are left, have no low above 0
  pub behind : (v : ℕ) → get_or places v 0 < side.left → low_in cube v ≡ 0
  -- the last fork's variable has the low that is known
  pub here : (v : ℕ) → get_or places v 0 ≡ side.left → low_in cube v ≡ side.low
  -- what is asked is the sum of all lows, as a byte
  pub all : side.asked ≡ sum_by low_of cube % 256

-- where a tree is entered, what is known is right for the cube without literals
pub known_first : (places : List ℕ) → IsKnownOf places first_side []
known_first places = record { behind = λ v earlier. refl; here = λ v at_first. refl; all = refl }

-- given: how many places are left at each variable of an order
module _ (variables places : List ℕ) (are : ArePlaces variables places) (k : ℕ) where
  -- two variables with as many places left are the same
  same_place : (v w : ℕ) → get_or places v 0 ≡ get_or places w 0 → get_or places w 0 ≢ 0 → v ≡ w
  same_place v w as_many some_left =
      left_apart 256 variables v w (sym (are.left v) ∙ as_many ∙ are.left w) (λ z. some_left (are.left w ∙ z))

  -- given: a fork at variable v that stands along the order, and a cube of which `side` is known
  module _ (v cut : ℕ) (side : ForkSide) (cube : List Literal) (rising : IsRising cube) (known : IsKnownOf places side cube)
      (at_most : get_or places v 0 ≤ side.left) (some : get_or places v 0 ≢ 0) where
    -- the low that is known of the fork's variable is that of the cube: it is the last fork's variable, or one behind
    -- it
    low_known : low_so_far side (get_or places v 0) ≡ low_in cube v
    low_known = elim (cases_eq (get_or places v 0) side.left) [
      | inl is_last ↦ cond-true (get_or places v 0 == side.left) side.low 0
          (eq-eqb (get_or places v 0) side.left is_last)
          ∙ sym (known.here v is_last)
      | inr other ↦ cond-false (get_or places v 0 == side.left) side.low 0 (ne_eqb (get_or places v 0) side.left other)
          ∙ sym (known.behind v (omega (arith, at_most, other)))
    ]

    -- a narrowed cube has nothing above 0 at variables behind the fork's
    behind_fork : (l : Literal) → l.variable ≡ v → (u : ℕ) → get_or places u 0 < get_or places v 0 →
        low_in (narrowed_by l cube) u ≡ 0
    behind_fork l is u is_behind =
        low-other k l cube u (λ equal. omega (arith, is_behind, ap (λ w. get_or places w 0) (sym is ∙ equal)))
        ∙ known.behind u (omega (arith, is_behind, at_most))

    -- what is known below the fork is so of the cube narrowed to the numbers up to the cut
    known_below : IsKnownOf places (side_below side (get_or places v 0)) (narrowed_by (up_to v cut) cube)
    known_below = record {
      behind = behind_fork (up_to v cut) refl;
      here = λ u as_many. subst (λ w. low_in (narrowed_by (up_to v cut) cube) w ≡ low_so_far side (get_or places v 0))
          (sym (same_place u v as_many some)) (omega (arith, low_known, low-same k (up_to v cut) cube rising));
      all = known.all ∙ ap (λ s. s % 256) (omega (arith, sum_narrowed (up_to v cut) cube rising));
    }

    -- what is known above the fork is so of the cube narrowed to the numbers above the cut
    known_above : IsKnownOf places (side_above side (get_or places v 0) cut) (narrowed_by (above k v cut) cube)
    known_above = record {
      behind = behind_fork (above k v cut) refl;
      here = λ u as_many.
          subst (λ w. low_in (narrowed_by (above k v cut) cube) w ≡ low_above side (get_or places v 0) cut)
          (sym (same_place u v as_many some)) (omega (arith, low_known, low-same k (above k v cut) cube rising));
      all = omega (arith, known.all, low_known, sum_narrowed (above k v cut) cube rising);
    }

  -- If the forks of a tree stand along the order, the demands by the way down are those of its columns, from right to
  -- left.
  pub demands_known : (n : TreeNode (Option ℕ)) (side : ForkSide) (cube : List Literal) → IsRising cube →
      IsKnownOf places side cube → AreForksAlong places side.left n →
      demands_by places side n ≡ reverse (demands_from k cube n)
  -- By induction on the tree. What is known at a fork is right for the narrowed cubes of both sides, and the list of
  -- the fork is that of the side above, then that of the side below.
  demands_known (Leaf None) side cube rising known along = refl
  demands_known (Leaf (Some time)) side cube rising known along =
      ap (λ asked. ((time * 256 % 2 ^ 64 + asked) % 2 ^ 64) ∷ []) known.all
  demands_known (Fork v cut x y) side cube rising known along =
      let lower = narrowed_by (up_to v cut) cube in
      let higher = narrowed_by (above k v cut) cube in
      let xs = columns_of_paths (paths_from k lower x) in
      let ys = columns_of_paths (paths_from k higher y) in
      ap₂ ◌++◌
      (demands_known y (side_above side (get_or places v 0) cut) higher (rising-narrowed (above k v cut) cube rising)
      (known_above v cut side cube rising known along.0 along.1) along.3)
      (demands_known x (side_below side (get_or places v 0)) lower (rising-narrowed (up_to v cut) cube rising)
      (known_below v cut side cube rising known along.0 along.1) along.2)
      ∙ sym (reverse-append (map demand_of xs) (map demand_of ys))
      ∙ ap reverse (sym (map-append demand_of xs ys)
      ∙ ap (map demand_of) (sym (both_columns (paths_from k lower x) (paths_from k higher y))))
