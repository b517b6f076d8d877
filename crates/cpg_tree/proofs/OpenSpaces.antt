-- Spaces that some scenario lies in, and cubes that say no more than a space. In the lemmas k is the most faults, and v
-- a variable.
use Rattle.std.proofs.Common.{ℕ, ◌+◌, ◌-◌, ◌<◌, ◌≤◌, ◌≡◌, ◌≢◌, true, nat_lt, List, [], get_or, sum_by, length, arith}
use Rattle.std.proofs.Common.{sym, ap, ◌∙◌, subst, inl, inr, ◌⊎◌, lt-ltb, le-ltb}
use Rattle.std.specs.Prelude.{nat_le, slice_set}
use Rattle.std.proofs.lemmas.Bool.{cases_lt, cases_eq, cond-true, cond-false, and_parts, or_cases, leb-true, ltb-true}
use Rattle.std.proofs.lemmas.List.{get_or-set_same, get_or-set_other, length-set}
use Rattle.cpg_base.specs.Numbers.{numbers_below}
use Rattle.cpg_base.proofs.Lists.{numbers-Contains}
use Rattle.cpg_base.proofs.Sums.{sum_changed, same_sum_by, sum_by_zeros}
use Rattle.cpg_cube.specs.declared.literal.Literal.{Literal}
use Rattle.cpg_cube.specs.Cube.{IsRising, low_in, high_in}
use Rattle.cpg_base.specs.Variable.{top}
use Rattle.cpg_cube.specs.Narrow.{narrowed_by}
use Rattle.cpg_cube.proofs.Narrow.{rising-narrowed}
use Rattle.cpg_tree.specs.Space.{Space, IsWhole, is_open_below, is_open_above, below_cut, above_cut}
use Rattle.cpg_tree.specs.Paths.{up_to, above}
use Rattle.cpg_cube.proofs.Narrowed.{low-other, low-same, high-other, high-same}

-- some scenario of at most k faults lies in the space: no range is empty, and the lows are few enough faults
pub record IsOpenSpace (k : ℕ) (space : Space) : Type 0 where
  pub lows : length space.low ≡ 256
  pub highs : length space.high ≡ 256
  pub opens : (v : ℕ) → v < 256 → get_or space.low v 0 ≤ get_or space.high v 0
  -- no high is above what its variable can be
  pub tops : (v : ℕ) → v < 256 → get_or space.high v 0 ≤ top k v
  -- the lows and the faults left are at most k
  pub budget : sum_by (λ p. get_or space.low p 0) (numbers_below 128) + space.left ≤ k

-- a cube's range of each variable contains the space's
pub record CoversSpace (k : ℕ) (space : Space) (cube : List Literal) : Type 0 where
  pub rising : IsRising cube
  pub low : (v : ℕ) → v < 256 → low_in cube v ≤ get_or space.low v 0
  pub high : (v : ℕ) → v < 256 → get_or space.high v 0 ≤ high_in k cube v
  -- no range of the cube goes past the whole one
  pub within : (v : ℕ) → high_in k cube v ≤ top k v

-- raising a low above a cut asks for no more faults than there are, if what is left covers it
more_asked : (new old low cut left k : ℕ) → new + low ≡ old + (cut + 1) → old + left ≤ k → low ≤ cut →
    cut < low + left →
    new + (left - (cut + 1 - low)) ≤ k
more_asked new old low cut left k changed most below allows = omega arith

-- given: an open space, and a cut with numbers on both sides
module _ (k : ℕ) (space : Space) (is : IsOpenSpace k space) (v cut : ℕ) (there : v < 256)
    (below : is_open_below space v cut ≡ true) (upper : is_open_above space v cut ≡ true) where
  -- the low of the variable is at most the cut
  pub low_at_most : get_or space.low v 0 ≤ cut
  low_at_most = leb-true (get_or space.low v 0) cut below

  -- the cut is below the high
  pub cut_less : cut < get_or space.high v 0
  cut_less = ltb-true cut (get_or space.high v 0) (and_parts (nat_lt cut (get_or space.high v 0)) _ upper).0

  -- the cut is below the top of its variable
  pub cut_under : cut < top k v
  cut_under = omega (arith, cut_less, is.tops v there)

  -- the high that was set is the cut, and the others are as they were
  set_high : (u : ℕ) → (u ≡ v) ⊎ (u ≢ v) →
      ((u ≡ v) × (get_or (slice_set space.high v cut) u 0 ≡ cut)) ⊎
      (get_or (slice_set space.high v cut) u 0 ≡ get_or space.high u 0)
  set_high u (inl is_v) = inl (
    is_v,
    subst (λ w. get_or (slice_set space.high v cut) w 0 ≡ cut) (sym is_v)
        (get_or-set_same space.high v cut 0 (omega (arith, is.highs, there))),
  )
  set_high u (inr other) = inr (get_or-set_other space.high v u cut 0 other)

  -- a low that is set stands at its variable, and the others stay
  set_low : (u : ℕ) → (u ≡ v) ⊎ (u ≢ v) →
      ((u ≡ v) × (get_or (slice_set space.low v (cut + 1)) u 0 ≡ cut + 1)) ⊎
      (get_or (slice_set space.low v (cut + 1)) u 0 ≡ get_or space.low u 0)
  set_low u (inl is_v) = inl (
    is_v,
    subst (λ w. get_or (slice_set space.low v (cut + 1)) w 0 ≡ cut + 1) (sym is_v)
        (get_or-set_same space.low v (cut + 1) 0 (omega (arith, is.lows, there))),
  )
  set_low u (inr other) = inr (get_or-set_other space.low v u (cut + 1) 0 other)

  -- the space stays open on either side of the cut
  pub opens_below : IsOpenSpace k (below_cut space v cut)
  -- the high of v is the cut, at least its low and at most its top; the ranges of other variables and the faults left
  -- stay
  opens_below = record {
    lows = is.lows;
    highs = length-set space.high v cut ∙ is.highs;
    opens = λ u small. elim (set_high u (cases_eq u v)) [
      | inl at_v ↦ omega (arith, at_v.1, low_at_most, ap (λ w. get_or space.low w 0) at_v.0)
      | inr stays ↦ omega (arith, stays, is.opens u small)
    ];
    tops = λ u small. elim (set_high u (cases_eq u v)) [
      | inl at_v ↦ omega (arith, at_v.1, cut_under, ap (top k) at_v.0)
      | inr stays ↦ omega (arith, stays, is.tops u small)
    ];
    budget = is.budget;
  }

  -- the faults that are left suffice for a count above the cut
  allows : v < 128 → cut < get_or space.low v 0 + space.left
  allows is_count = elim (or_cases (nat_le 128 v) (nat_lt cut (get_or space.low v 0 + space.left))
      (and_parts (nat_lt cut (get_or space.high v 0)) _ upper).1) [
        | inl is_value ↦ absurd (omega (arith, leb-true 128 v is_value, is_count))
        | inr room ↦ ltb-true cut (get_or space.low v 0 + space.left) room
      ]

  -- an open space stays open above the cut; by kind: a count spends the faults up to the cut, and a value none
  pub opens_above : IsOpenSpace k (above_cut space v cut)
  -- The low of v becomes `cut + 1`, and those of other variables stay. For the budget: if v is a count, the lows grow
  -- by as many as are taken from the faults left; if it is a value, both stay.
  opens_above = record {
    lows = length-set space.low v (cut + 1) ∙ is.lows;
    highs = is.highs;
    opens = λ u small. elim (set_low u (cases_eq u v)) [
      | inl at_v ↦ omega (arith, at_v.1, cut_less, ap (λ w. get_or space.high w 0) at_v.0)
      | inr stays ↦ omega (arith, stays, is.opens u small)
    ];
    tops = is.tops;
    budget = elim (cases_lt v 128) [
      | inl is_count ↦
          let changed = sum_changed (λ p. get_or (slice_set space.low v (cut + 1)) p 0)
          (λ p. get_or space.low p 0) 128 v is_count (λ u other. get_or-set_other space.low v u (cut + 1) 0 other) in
          let here = ap (λ m. sum_by (λ p. get_or space.low p 0) (numbers_below 128) + m)
          (get_or-set_same space.low v (cut + 1) 0 (omega (arith, is.lows, there))) in
          subst (λ n.
          sum_by (λ p. get_or (slice_set space.low v (cut + 1)) p 0) (numbers_below 128) + (space.left - n) ≤ k)
          (sym (cond-true (nat_lt v 128) (cut + 1 - get_or space.low v 0) 0 (lt-ltb v 128 is_count)))
          (more_asked _ _ (get_or space.low v 0) cut space.left k (changed ∙ here) is.budget low_at_most
          (allows is_count))
      | inr is_value ↦
          let same = same_sum_by (λ p. get_or (slice_set space.low v (cut + 1)) p 0) (λ p. get_or space.low p 0)
          (numbers_below 128)
          (λ u listed. get_or-set_other space.low v u (cut + 1) 0
          (λ is_v. omega (arith, numbers-Contains 128 u listed, is_v, is_value))) in
          subst (λ n.
          sum_by (λ p. get_or (slice_set space.low v (cut + 1)) p 0) (numbers_below 128) + (space.left - n) ≤ k)
          (sym (cond-false (nat_lt v 128) (cut + 1 - get_or space.low v 0) 0 (le-ltb v 128 is_value)))
          (as_before _ _ space.left k same is.budget)
    ];
  }
    where
      -- as many faults are asked for as before, and none of those left is taken, so the sum is still at most k
      as_before : (new old left k : ℕ) → new ≡ old → old + left ≤ k → new + (left - 0) ≤ k
      as_before new old left k same fits = omega arith

  -- given: a cube that covers the space
  module _ (cube : List Literal) (covers : CoversSpace k space cube) where
    -- a cube that covers the space, narrowed to the numbers up to the cut, covers the part of the space below the cut
    pub covers_below : CoversSpace k (below_cut space v cut) (narrowed_by (up_to v cut) cube)
    -- v itself has the cut as its high in both the cube and the space; the ranges of each other variable stay
    covers_below = record {
      rising = rising-narrowed (up_to v cut) cube covers.rising;
      low = λ u small. elim (cases_eq v u) [
        | inl is_v ↦ subst (λ w. low_in (narrowed_by (up_to v cut) cube) w ≤ get_or space.low w 0) is_v
            (omega (arith, low-same k (up_to v cut) cube covers.rising, covers.low v there))
        | inr other ↦ omega (arith, low-other k (up_to v cut) cube u other, covers.low u small)
      ];
      high = λ u small. elim (set_high u (cases_eq u v)) [
        | inl at_v ↦ subst (λ w. get_or (slice_set space.high v cut) u 0 ≤ high_in k (narrowed_by (up_to v cut) cube) w)
            (sym at_v.0)
            (omega (
              arith,
              at_v.1,
              high-same k (up_to v cut) cube covers.rising (omega (arith, cut_under)),
              covers.high v there,
              cut_less,
            ))
        | inr stays ↦ elim (cases_eq v u) [
          | inl is_v ↦
              subst (λ w. get_or (slice_set space.high v cut) w 0 ≤ high_in k (narrowed_by (up_to v cut) cube) w) is_v
              (omega (
                arith,
                get_or-set_same space.high v cut 0 (omega (arith, is.highs, there)),
                high-same k (up_to v cut) cube covers.rising (omega (arith, cut_under)),
                covers.high v there,
                cut_less,
              ))
          | inr other ↦ omega (arith, stays, high-other k (up_to v cut) cube u other, covers.high u small)
        ]
      ];
      within = λ u. elim (cases_eq v u) [
        | inl is_v ↦ subst (λ w. high_in k (narrowed_by (up_to v cut) cube) w ≤ top k w) is_v
            (omega (arith, high-same k (up_to v cut) cube covers.rising (omega (arith, cut_under)), cut_under))
        | inr other ↦ omega (arith, high-other k (up_to v cut) cube u other, covers.within u)
      ];
    }

    -- a cube that covers the space, narrowed to the numbers above the cut, covers the part of the space above the cut
    pub covers_above : CoversSpace k (above_cut space v cut) (narrowed_by (above k v cut) cube)
    -- v itself has its low raised to `cut + 1` in both the cube and the space; the ranges of each other variable stay
    covers_above = record {
      rising = rising-narrowed (above k v cut) cube covers.rising;
      low = λ u small. elim (cases_eq v u) [
        | inl is_v ↦
            subst (λ w. low_in (narrowed_by (above k v cut) cube) w ≤ get_or (slice_set space.low v (cut + 1)) w 0) is_v
            (omega (
              arith,
              get_or-set_same space.low v (cut + 1) 0 (omega (arith, is.lows, there)),
              low-same k (above k v cut) cube covers.rising,
              covers.low v there,
              low_at_most,
            ))
        | inr other ↦ omega (
          arith,
          get_or-set_other space.low v u (cut + 1) 0 (λ equal. other (sym equal)),
          low-other k (above k v cut) cube u other,
          covers.low u small,
        )
      ];
      high = λ u small. elim (cases_eq v u) [
        | inl is_v ↦ subst (λ w. get_or space.high w 0 ≤ high_in k (narrowed_by (above k v cut) cube) w) is_v
            (omega (
              arith,
              high-same k (above k v cut) cube covers.rising (omega arith),
              covers.high v there,
              is.tops v there,
            ))
        | inr other ↦ omega (arith, high-other k (above k v cut) cube u other, covers.high u small)
      ];
      within = λ u. elim (cases_eq v u) [
        | inl is_v ↦ subst (λ w. high_in k (narrowed_by (above k v cut) cube) w ≤ top k w) is_v
            (omega (arith, high-same k (above k v cut) cube covers.rising (omega arith)))
        | inr other ↦ omega (arith, high-other k (above k v cut) cube u other, covers.within u)
      ];
    }

-- ---- the space of all scenarios

-- the space of all scenarios is open
pub whole_opens : (k : ℕ) (space : Space) → IsWhole k space → IsOpenSpace k space
-- all lows are 0, so no fault is asked for; the high of a count is k, and that of a value 1, which are their tops
whole_opens k space whole = record {
  lows = whole.long;
  highs = whole.high_long;
  opens = λ v small. omega (arith, whole.lows v small);
  tops = λ v small. elim (cases_lt v 128) [
    | inl is_count ↦ omega (arith, whole.counts v is_count, cond-true (nat_lt v 128) k 1 (lt-ltb v 128 is_count))
    | inr is_value ↦ omega (arith, whole.values v is_value small, cond-false (nat_lt v 128) k 1 (le-ltb v 128 is_value))
  ];
  budget = omega (
    arith,
    sum_by_zeros (λ p. get_or space.low p 0) (numbers_below 128)
        (λ p listed. whole.lows p (omega (arith, numbers-Contains 128 p listed))),
    whole.left,
  );
}

-- the cube without literals covers the space of all scenarios
pub whole_covers : (k : ℕ) (space : Space) → IsWhole k space → CoversSpace k space []
whole_covers k space whole = record {
  rising = λ i j d i_below j_below. absurd (omega (arith, j_below));
  low = λ v below. omega arith;
  high = λ v small. (whole_opens k space whole).tops v small;
  within = λ v. omega arith;
}
