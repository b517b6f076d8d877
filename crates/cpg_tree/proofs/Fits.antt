-- A tree that fits a space fits one with higher highs and with more faults left.
use Rattle.std.proofs.Common.{ℕ, ◌+◌, ◌-◌, ◌<◌, ◌≤◌, ◌≡◌, ◌≢◌, true, ◌||◌, nat_lt, List, get_or, arith, refl, sym, ap}
use Rattle.std.proofs.Common.{◌∙◌, subst, set-set, inl, inr, ◌⊎◌, lt-ltb}
use Rattle.std.specs.Prelude.{nat_le, slice_set, length}
use Rattle.std.proofs.lemmas.Bool.{cases_eq, cases_lt, and_parts, and_from, or_cases, or_left, or_right, cond-true}
use Rattle.std.proofs.lemmas.Bool.{cond-false, leb-true, ltb-true, le-leb, le-ltb}
use Rattle.std.proofs.lemmas.Grind.{same_number_lists}
use Rattle.std.proofs.lemmas.List.{get_or-set_same, get_or-set_other, get_or_past, length-set}
use Rattle.cpg_tree.specs.TreeNode.{TreeNode, Leaf, Fork}
use Rattle.cpg_tree.specs.Space.{Space, IsWhole, is_open_below, is_open_above, below_cut, above_cut, faults_of}
use Rattle.cpg_tree.specs.Decision.{IsFit}

-- the other space has the same lows, highs that are no lower, and no fewer faults left
record IsHigher (space other : Space) : Type 0 where
  pub low : space.low ≡ other.low
  pub left : space.left ≤ other.left
  pub long : length space.high ≡ length other.high
  pub high : (v : ℕ) → get_or space.high v 0 ≤ get_or other.high v 0

-- setting the same cut in both lists of highs keeps the one no lower than the other
higher_set : (highs others : List ℕ) (v cut u : ℕ) → length highs ≡ length others →
    get_or highs u 0 ≤ get_or others u 0 →
    (u ≡ v) ⊎ (u ≢ v) →
    get_or (slice_set highs v cut) u 0 ≤ get_or (slice_set others v cut) u 0
-- another variable keeps its highs; v itself gets the cut in both, or 0 if it is behind both lists
higher_set highs others v cut u long at_most (inr other) =
    omega (arith, get_or-set_other highs v u cut 0 other, get_or-set_other others v u cut 0 other, at_most)
higher_set highs others v cut u long at_most (inl is_v) =
    subst (λ w. get_or (slice_set highs v cut) w 0 ≤ get_or (slice_set others v cut) w 0) (sym is_v)
    (by_length (cases_lt v (length highs)))
  where
    -- at v itself both have the cut, or 0 if the lists end before v
    by_length : (v < length highs) ⊎ (length highs ≤ v) →
        get_or (slice_set highs v cut) v 0 ≤ get_or (slice_set others v cut) v 0
    by_length (inl inside) =
        omega (
          arith,
          get_or-set_same highs v cut 0 inside,
          get_or-set_same others v cut 0 (omega (arith, inside, long)),
        )
    by_length (inr past) =
        omega (arith, get_or_past (slice_set highs v cut) v 0 (omega (arith, past, length-set highs v cut)))

-- if no more faults are left, no more are left after n are used either
less_left : (a b n : ℕ) → a ≤ b → a - n ≤ b - n
less_left a b n at_most = omega arith

-- if some faults left allow a number, so do more
allows_more : (v cut low a b : ℕ) → a ≤ b → (nat_le 128 v || nat_lt cut (low + a)) ≡ true →
    (nat_le 128 v || nat_lt cut (low + b)) ≡ true
allows_more v cut low a b more allows = elim (or_cases (nat_le 128 v) (nat_lt cut (low + a)) allows) [
  | inl value ↦ or_left (nat_le 128 v) _ value
  | inr count ↦ or_right (nat_le 128 v) _ (lt-ltb cut (low + b) (omega (arith, ltb-true cut (low + a) count, more)))
]

-- given: a space, another whose highs are no lower and that has no fewer faults left, and a cut
module _ (space other : Space) (higher : IsHigher space other) (v cut : ℕ) where
  -- below a cut one space is still the higher
  higher_below : IsHigher (below_cut space v cut) (below_cut other v cut)
  -- the high of v is the cut in both, and the highs of other variables stay
  higher_below = record {
    low = higher.low;
    left = higher.left;
    long = length-set space.high v cut ∙ higher.long ∙ sym (length-set other.high v cut);
    high = λ u. higher_set space.high other.high v cut u higher.long (higher.high u) (cases_eq u v);
  }

  -- above a cut one space is still the higher
  higher_above : IsHigher (above_cut space v cut) (above_cut other v cut)
  higher_above = record {
    low = ap (λ (lows : List ℕ). slice_set lows v (cut + 1)) higher.low;
    left = subst (λ (lows : List ℕ). space.left - faults_of v (cut + 1 - get_or space.low v 0)
        ≤ other.left - faults_of v (cut + 1 - get_or lows v 0)) higher.low
        (less_left space.left other.left (faults_of v (cut + 1 - get_or space.low v 0)) higher.left);
    long = higher.long;
    high = higher.high;
  }

  -- a cut that is open below in one space is open below in the other
  open_below : is_open_below space v cut ≡ true → is_open_below other v cut ≡ true
  open_below opens = subst (λ (lows : List ℕ). nat_le (get_or lows v 0) cut ≡ true) higher.low opens

  -- a cut that one space has open above is open above in the higher one
  open_above : is_open_above space v cut ≡ true → is_open_above other v cut ≡ true
  open_above opens =
      let parts = and_parts (nat_lt cut (get_or space.high v 0))
      (nat_le 128 v || nat_lt cut (get_or space.low v 0 + space.left)) opens in
      and_from (nat_lt cut (get_or other.high v 0)) _
      (lt-ltb cut (get_or other.high v 0) (omega (arith, ltb-true cut (get_or space.high v 0) parts.0, higher.high v)))
      (subst (λ (lows : List ℕ). (nat_le 128 v || nat_lt cut (get_or lows v 0 + other.left)) ≡ true) higher.low
      (allows_more v cut (get_or space.low v 0) space.left other.left higher.left parts.1))

-- a tree that fits a space fits any that is higher
fits_higher : {T : Type 0} (node : TreeNode T) (space other : Space) → IsHigher space other → IsFit space node →
    IsFit other node
-- by induction on the tree: a leaf, then a fork by its two sides
fits_higher (Leaf x) space other higher fit = fit
fits_higher (Fork v cut below above) space other higher fit = (
  fit.0,
  open_below space other higher v cut fit.1,
  open_above space other higher v cut fit.2,
  fits_higher below (below_cut space v cut) (below_cut other v cut) (higher_below space other higher v cut) fit.3,
  fits_higher above (above_cut space v cut) (above_cut other v cut) (higher_above space other higher v cut) fit.4,
)

-- a tree that fits the numbers up to a cut fits the space without the cut
pub fits_uncut : {T : Type 0} (node : TreeNode T) (space : Space) (v cut : ℕ) → is_open_above space v cut ≡ true →
    IsFit (below_cut space v cut) node →
    IsFit space node
fits_uncut node space v cut opens fit = fits_higher node (below_cut space v cut) space
    (record { low = refl; left = omega arith; long = length-set space.high v cut; high = lower }) fit
  where
    -- the cut is below the high, since the space is open above it
    below_high : cut < get_or space.high v 0
    below_high = ltb-true cut (get_or space.high v 0) (and_parts (nat_lt cut (get_or space.high v 0)) _ opens).0

    -- setting the high to the cut makes it no higher
    at_cut : (v < length space.high) ⊎ (length space.high ≤ v) →
        get_or (slice_set space.high v cut) v 0 ≤ get_or space.high v 0
    at_cut (inl inside) = omega (arith, get_or-set_same space.high v cut 0 inside, below_high)
    at_cut (inr past) = absurd (omega (arith, get_or_past space.high v 0 past, below_high))

    -- setting the high to the cut makes no high greater
    lower : (u : ℕ) → get_or (slice_set space.high v cut) u 0 ≤ get_or space.high u 0
    -- at v the new high is the cut, which isn't above the old one; elsewhere the highs stay
    lower u = elim (cases_eq u v) [
      | inr other ↦ omega (arith, get_or-set_other space.high v u cut 0 other)
      | inl is_v ↦ subst (λ w. get_or (slice_set space.high v cut) w 0 ≤ get_or space.high w 0) (sym is_v)
          (at_cut (cases_lt v (length space.high)))
    ]

-- ---- two cuts of one variable, the first left out

-- a number that is set is there, or past the list
at_set : (xs : List ℕ) (v y : ℕ) →
    (get_or (slice_set xs v y) v 0 ≡ y) ⊎ ((get_or (slice_set xs v y) v 0 ≡ 0) × (get_or xs v 0 ≡ 0))
-- within the list the number is set; past its end both lists give 0
at_set xs v y = elim (cases_lt v (length xs)) [
  | inl inside ↦ inl (get_or-set_same xs v y 0 inside)
  | inr past ↦
      inr (get_or_past (slice_set xs v y) v 0 (omega (arith, past, length-set xs v y)), get_or_past xs v 0 past)
]

-- a list with a lower number put at v has nowhere a higher number
set_lower : (highs : List ℕ) (v cut far u : ℕ) → cut < far →
    get_or (slice_set highs v cut) u 0 ≤ get_or (slice_set highs v far) u 0
-- at v the lower number is read in place of the higher one, or 0 in both past the end; elsewhere the lists are equal
set_lower highs v cut far u less = elim (cases_eq u v) [
  | inr other ↦ omega (arith, get_or-set_other highs v u cut 0 other, get_or-set_other highs v u far 0 other)
  | inl is_v ↦ subst (λ w. get_or (slice_set highs v cut) w 0 ≤ get_or (slice_set highs v far) w 0) (sym is_v)
      (elim (cases_lt v (length highs)) [
        | inl inside ↦ omega (arith, get_or-set_same highs v cut 0 inside, get_or-set_same highs v far 0 inside, less)
        | inr past ↦
            omega (arith, get_or_past (slice_set highs v cut) v 0 (omega (arith, past, length-set highs v cut)))
      ])
]

-- if the faults left beyond the lower cut allow a number above the higher one, so do those left without the lower cut
twice_allows : (low cut far left here : ℕ) → (here ≡ cut + 1) ⊎ ((here ≡ 0) × (low ≡ 0)) → low ≤ cut → cut < far →
    far < here + (left - (cut + 1 - low)) →
    far < low + left
twice_allows low cut far left here (inl e) below less too_far = omega arith
twice_allows low cut far left here (inr e) below less too_far = omega (arith, e.0, e.1)

-- cutting twice leaves no more faults than cutting at the higher cut alone
twice_left : (low cut far left here : ℕ) → (here ≡ cut + 1) ⊎ ((here ≡ 0) × (low ≡ 0)) → low ≤ cut → cut < far →
    left - (cut + 1 - low) - (far + 1 - here) ≤ left - (far + 1 - low)
twice_left low cut far left here (inl e) below less = omega arith
twice_left low cut far left here (inr e) below less = omega (arith, e.0, e.1)

-- a value takes no faults
no_faults : (v n : ℕ) → 128 ≤ v → faults_of v n ≡ 0
no_faults v n is_value = cond-false (nat_lt v 128) n 0 (le-ltb v 128 is_value)

-- a count takes as many as it says
all_faults : (v n : ℕ) → v < 128 → faults_of v n ≡ n
all_faults v n is_count = cond-true (nat_lt v 128) n 0 (lt-ltb v 128 is_count)

-- given: a space, and two cuts of one variable, of which the lower one is open below
module _ (space : Space) (v cut far : ℕ) (less : cut < far) (below : is_open_below space v cut ≡ true) where
  -- the low isn't above the cut
  low_under : get_or space.low v 0 ≤ cut
  low_under = leb-true (get_or space.low v 0) cut below

  -- the low that was set is the number after the cut, or both are 0 behind the list
  at_low : (get_or (slice_set space.low v (cut + 1)) v 0 ≡ cut + 1) ⊎
      ((get_or (slice_set space.low v (cut + 1)) v 0 ≡ 0) × (get_or space.low v 0 ≡ 0))
  at_low = at_set space.low v (cut + 1)

  -- the farther cut is open below
  joined_open_below : is_open_below space v far ≡ true
  joined_open_below = le-leb (get_or space.low v 0) far (omega (arith, low_under, less))

  -- if the space above the lower cut is open above the higher one, so is the space itself
  joined_open_above : is_open_above (above_cut space v cut) v far ≡ true → is_open_above space v far ≡ true
  -- a value takes no faults; for a count, the faults left without the lower cut allow what those left after it do
  joined_open_above opens =
      let parts = and_parts (nat_lt far (get_or space.high v 0)) _ opens in
      and_from (nat_lt far (get_or space.high v 0)) _ parts.0 (elim (cases_lt v 128) [
        | inr value ↦ or_left (nat_le 128 v) _ (le-leb 128 v value)
        | inl count ↦ elim (or_cases (nat_le 128 v) _ parts.1) [
          | inl value ↦ or_left (nat_le 128 v) _ value
          | inr allows ↦ or_right (nat_le 128 v) _ (lt-ltb far (get_or space.low v 0 + space.left)
              (twice_allows (get_or space.low v 0) cut far space.left
              (get_or (slice_set space.low v (cut + 1)) v 0) at_low low_under less
              (subst (λ (n : ℕ). far < get_or (slice_set space.low v (cut + 1)) v 0 + (space.left - n))
              (all_faults v (cut + 1 - get_or space.low v 0) count) (ltb-true far _ allows))))
        ]
      ])

  -- below the farther cut the space is the higher
  joined_below : IsHigher (below_cut space v cut) (below_cut space v far)
  joined_below = record {
    low = refl;
    left = omega arith;
    long = length-set space.high v cut ∙ sym (length-set space.high v far);
    high = λ u. set_lower space.high v cut far u less;
  }

  -- raising the low twice, to the lower cut and then to the higher one, leaves no more faults than raising it at once
  joined_left : (space.left - faults_of v (cut + 1 - get_or space.low v 0))
      - faults_of v (far + 1 - get_or (slice_set space.low v (cut + 1)) v 0) ≤ space.left - faults_of v
      (far + 1 - get_or space.low v 0)
  -- a count takes the faults of both steps, which are those of the one step; a value takes none
  joined_left = elim (cases_lt v 128) [
    | inl count ↦ omega (
      arith,
      all_faults v (cut + 1 - get_or space.low v 0) count,
      all_faults v (far + 1 - get_or (slice_set space.low v (cut + 1)) v 0) count,
      all_faults v (far + 1 - get_or space.low v 0) count,
      twice_left (get_or space.low v 0) cut far space.left
          (get_or (slice_set space.low v (cut + 1)) v 0) at_low low_under less,
    )
    | inr value ↦ omega (arith, no_faults v (far + 1 - get_or space.low v 0) value)
  ]

  -- above both cuts it is what it is above the farther
  joined_above : IsHigher (above_cut (above_cut space v cut) v far) (above_cut space v far)
  joined_above =
      record { low = set-set space.low v (cut + 1) (far + 1); left = joined_left; long = refl; high = λ u. omega arith }

-- If `above` is a fork on the same variable at a greater cut, the fork at that cut with `below` and its far side fits
-- the space too. So `below` can take the place of the side in between.
pub fits_joined : {T : Type 0} (below near far_above above : TreeNode T) (space : Space) (v cut next far : ℕ) →
    above ≡ Fork next far near far_above → next ≡ v →
    cut < far →
    is_open_below space v cut ≡ true → IsFit (below_cut space v cut) below → IsFit (above_cut space v cut) above →
    (v < 256) × (is_open_below space v far ≡ true) × (is_open_above space v far ≡ true) ×
    IsFit (below_cut space v far) below × IsFit (above_cut space v far) far_above
-- the cut at `far` is open on both sides, and each side's space is higher than the one that the tree is known to fit
fits_joined {T} below near far_above above space v cut next far is same less under fit_below fit_above =
    let fit = subst (λ (u : ℕ). IsFit (above_cut space v cut) (Fork u far near far_above)) same
    (subst (λ (n : TreeNode T). IsFit (above_cut space v cut) n) is fit_above) in (
      fit.0,
      joined_open_below space v cut far less under,
      joined_open_above space v cut far less under fit.2,
      fits_higher below (below_cut space v cut) (below_cut space v far)
          (joined_below space v cut far less under) fit_below,
      fits_higher far_above (above_cut (above_cut space v cut) v far) (above_cut space v far)
          (joined_above space v cut far less under) fit.4,
    )

-- a tree that fits one space of all scenarios fits any
module _ (k : ℕ) (space other : Space) (one : IsWhole k space) (two : IsWhole k other) where
  -- no high of the first whole space is above that of the second
  whole_high : (v : ℕ) → get_or space.high v 0 ≤ get_or other.high v 0
  -- both have k for a count and 1 for a value; past the 256 variables both give 0
  whole_high v = elim (cases_lt v 256) [
    | inl there ↦ elim (cases_lt v 128) [
      | inl count ↦ omega (arith, one.counts v count, two.counts v count)
      | inr value ↦ omega (arith, one.values v value there, two.values v value there)
    ]
    | inr past ↦ omega (arith, get_or_past space.high v 0 (omega (arith, past, one.high_long)))
  ]

  -- two whole spaces have the same lows
  whole_low : (v : ℕ) → v < length space.low → get_or space.low v 0 ≡ get_or other.low v 0
  whole_low v below = let there : v < 256 = omega (arith, below, one.long) in one.lows v there ∙ sym (two.lows v there)

  -- between two such spaces no number differs, so a tree that fits one fits the other
  pub fits_whole : {T : Type 0} (node : TreeNode T) → IsFit space node → IsFit other node
  fits_whole node = fits_higher node space other
      (record {
        low = same_number_lists space.low other.low (one.long ∙ sym two.long) whole_low;
        left = omega (arith, one.left, two.left);
        long = one.high_long ∙ sym two.high_long;
        high = whole_high;
      })
