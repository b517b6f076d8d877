-- The paths of a tree: each scenario is on one, which has the value and the ranges that it finds on its way down. In
-- the lemmas k is the most faults, v a variable, and x a path.
use Rattle.std.proofs.Common.{ℕ, ◌+◌, ◌<◌, ◌≤◌, ◌≡◌, ◌≢◌, max, min, true, false, List, [], ◌∷◌, length, filter, get_or}
use Rattle.std.proofs.Common.{Contains, arith, refl, sym, ap, ap₂, ◌∙◌, subst, inl, inr, ◌⊎◌, length-append}
use Rattle.std.proofs.Common.{lt-ltb, le-ltb, rules}
use Rattle.std.specs.Prelude.{nat_lt, slice_set}
use Rattle.std.proofs.lemmas.Bool.{cases_lt, cases_eq, cond-true, cond-false, and_parts, and_from, both_ways}
use Rattle.std.proofs.lemmas.Bool.{false_from_ne_true, ltb-true}
use Rattle.std.proofs.lemmas.List.{get_or-set_same, get_or-set_other, get_or_past}
use Rattle.std.proofs.lemmas.List.Elements.{Contains-append_cases, filter-append}
use Rattle.cpg_base.proofs.Lists.{Contains-cases, Contains-nil, filter_none}
use Rattle.cpg_base.specs.Scenario.{Scenario, number_of}
use Rattle.cpg_cube.specs.declared.literal.Literal.{Literal}
use Rattle.cpg_cube.specs.Cube.{IsRising, holds, matches, low_in, high_in}
use Rattle.cpg_base.specs.Variable.{top}
use Rattle.cpg_cube.specs.Narrow.{narrowed_by}
use Rattle.cpg_cube.proofs.CubeLows.{holds-low, holds-high, holds-from}
use Rattle.cpg_cube.proofs.Narrow.{matches-narrowed, rising-narrowed}
use Rattle.cpg_tree.specs.TreeNode.{TreeNode, Leaf, Fork}
use Rattle.cpg_tree.specs.Space.{Space, HasAtMostFaults, IsWhole, below_cut, above_cut}
use Rattle.cpg_tree.specs.Decision.{value_at, low_at, high_at, IsFit, IsGood, HasCuts}
use Rattle.cpg_tree.specs.Paths.{up_to, above, paths_from, paths_of}
use Rattle.cpg_tree.specs.Tree.{Path, is_on, IsOnPath}
use Rattle.cpg_tree.proofs.Forks.{value_below, value_above, low_below, low_above, low_here, high_below, high_above}
use Rattle.cpg_tree.proofs.Forks.{high_here}
use Rattle.cpg_cube.proofs.Narrowed.{low-other, low-same, high-other, high-same}
use Rattle.cpg_tree.proofs.Spaces.{number_le_top}

-- no high of the space is above the whole range
Reaches : ℕ → Space → Type 0
Reaches k space = (v : ℕ) → v < 256 → get_or space.high v 0 ≤ top k v

-- below a cut no high is above the whole range
reaches_below : (k : ℕ) (space : Space) (v cut : ℕ) → cut < top k v → Reaches k space →
    Reaches k (below_cut space v cut)
unfolding Reaches
reaches_below k space v cut less reaches u below_256 = by_place (cases_eq u v)
  where
    -- v's own high is the cut, or 0 if v is behind the list
    at_cut : (v < length space.high) ⊎ (length space.high ≤ v) → get_or (slice_set space.high v cut) v 0 ≤ top k v
    at_cut (inl inside) = omega (arith, get_or-set_same space.high v cut 0 inside, less)
    at_cut (inr past) = omega (arith, less, grown past)
      where
        -- behind the list nothing is set
        grown : length space.high ≤ v → get_or (slice_set space.high v cut) v 0 ≡ 0
        grown past = get_or_past (slice_set space.high v cut) v 0 (omega (arith, past, long_set space.high v cut))
          where
            -- setting a number keeps a list's length
            long_set : (xs : List ℕ) (i y : ℕ) → length (slice_set xs i y) ≡ length xs
            long_set xs i y = search rules

    -- no high is above the top, at the cut's variable or another
    by_place : (u ≡ v) ⊎ (u ≢ v) → get_or (slice_set space.high v cut) u 0 ≤ top k u
    by_place (inr other) = omega (arith, get_or-set_other space.high v u cut 0 other, reaches u below_256)
    by_place (inl is_v) =
        subst (λ w. get_or (slice_set space.high v cut) w 0 ≤ top k w) (sym is_v)
        (at_cut (cases_lt v (length space.high)))

-- if a tree fits a space, each of its cuts is below the greatest number of its variable
fits_cuts : {T : Type 0} (k : ℕ) (node : TreeNode T) (space : Space) → Reaches k space → IsFit space node →
    HasCuts k node
unfolding Reaches
-- by induction on the tree: a leaf, then a fork by its two sides
fits_cuts k (Leaf x) space reaches fit = tt
fits_cuts k (Fork v cut below above) space reaches fit =
    let less : cut < top k v = omega (
      arith,
      ltb-true cut (get_or space.high v 0) (and_parts (nat_lt cut (get_or space.high v 0)) _ fit.2).0,
      reaches v fit.0,
    ) in (
      fit.0,
      less,
      fits_cuts k below (below_cut space v cut) (reaches_below k space v cut less reaches) fit.3,
      fits_cuts k above (above_cut space v cut) reaches fit.4,
    )

-- no high of the whole space is above the whole range
whole_reaches : (k : ℕ) (space : Space) → IsWhole k space → Reaches k space
unfolding Reaches
whole_reaches k space whole v below_256 = elim (cases_lt v 128) [
  | inl is_count ↦ omega (arith, whole.counts v is_count, cond-true (nat_lt v 128) k 1 (lt-ltb v 128 is_count))
  | inr is_value ↦ omega (
    arith,
    whole.values v is_value below_256,
    cond-false (nat_lt v 128) k 1 (le-ltb v 128 is_value),
  )
]

-- in a good tree each cut is below the greatest number that its variable can have
pub good_cuts : {T : Type 0} (k : ℕ) (node : TreeNode T) → IsGood k node → HasCuts k node
good_cuts k node good = fits_cuts k node good.0 (whole_reaches k good.0 good.1) good.2

-- ---- what a path says

-- a cube of rising variables within their whole ranges
pub record IsTidy (k : ℕ) (cube : List Literal) : Type 0 where
  pub rising : IsRising cube
  pub within : (v : ℕ) → high_in k cube v ≤ top k v

-- given: a tidy cube, and a cut that leaves numbers above it
module _ (k : ℕ) (cube : List Literal) (tidy : IsTidy k cube) (v cut : ℕ) (less : cut < top k v) where
  -- a tidy cube narrowed to the numbers up to a cut is tidy
  tidy_below : IsTidy k (narrowed_by (up_to v cut) cube)
  -- the high of v is at most the cut, so below its top; the ranges of other variables stay
  tidy_below = record {
    rising = rising-narrowed (up_to v cut) cube tidy.rising;
    within = λ u. elim (cases_eq v u) [
      | inl is_v ↦ subst (λ w. high_in k (narrowed_by (up_to v cut) cube) w ≤ top k w) is_v
          (omega (arith, high-same k (up_to v cut) cube tidy.rising (omega (arith, less)), less))
      | inr other ↦ omega (arith, high-other k (up_to v cut) cube u other, tidy.within u)
    ];
  }

  -- a tidy cube narrowed to the numbers above a cut is tidy
  tidy_above : IsTidy k (narrowed_by (above k v cut) cube)
  -- the high of v is at most its top; the ranges of other variables stay
  tidy_above = record {
    rising = rising-narrowed (above k v cut) cube tidy.rising;
    within = λ u. elim (cases_eq v u) [
      | inl is_v ↦ subst (λ w. high_in k (narrowed_by (above k v cut) cube) w ≤ top k w) is_v
          (omega (arith, high-same k (above k v cut) cube tidy.rising (omega arith)))
      | inr other ↦ omega (arith, high-other k (above k v cut) cube u other, tidy.within u)
    ];
  }

-- given: the number of faults k, and a scenario s
module _ {T : Type 0} (k : ℕ) (s : Scenario) where
  -- a path on from a cube has the value and the ranges that the scenario finds
  pub record IsPathOf (cube : List Literal) (node : TreeNode T) (x : Path T) : Type 0 where
    -- the scenario matches the cube that the path goes on from
    pub came : matches cube s ≡ true
    pub value : x.1 ≡ value_at node s
    -- each range is what the cube and the way down the node leave
    pub low : (v : ℕ) → low_in x.0 v ≡ max (low_in cube v) (low_at node s v)
    pub high : (v : ℕ) → high_in k x.0 v ≡ min (high_in k cube v) (high_at k node s v)

  -- the path of the side below, on from the narrowed cube, is the path of the fork
  path_below : (cube : List Literal) → IsTidy k cube → (v cut : ℕ) (below : TreeNode T) (upper : TreeNode T) →
      cut < top k v → (x : Path T) →
      IsPathOf (narrowed_by (up_to v cut) cube) below x → IsPathOf cube (Fork v cut below upper) x
  -- The scenario matches the narrowed cube, so it goes below the cut and finds there what the fork has. The high of v
  -- is at most the cut, by the cube and by the fork; the ranges of other variables are those of the side.
  path_below cube tidy v cut below upper less x of_side =
      let both =
      and_parts (holds s (up_to v cut)) (matches cube s) (sym (matches-narrowed s (up_to v cut) cube) ∙ of_side.came) in
      let is_below : number_of s v ≤ cut = holds-high s (up_to v cut) both.0 in
      record {
        came = both.1;
        value = of_side.value ∙ sym (value_below v cut below upper s is_below);
        low = λ u. elim (cases_eq v u) [
          | inl is_v ↦ subst (λ w. low_in x.0 w ≡ max (low_in cube w) (low_at (Fork v cut below upper) s w)) is_v
              (omega (
                arith,
                of_side.low v,
                low-same k (up_to v cut) cube tidy.rising,
                low_below v cut below upper s is_below v,
              ))
          | inr other ↦ omega (
            arith,
            of_side.low u,
            low-other k (up_to v cut) cube u other,
            low_below v cut below upper s is_below u,
          )
        ];
        high = λ u. elim (cases_eq v u) [
          | inl is_v ↦ subst (λ w. high_in k x.0 w ≡ min (high_in k cube w) (high_at k (Fork v cut below upper) s w))
              is_v
              (omega (
                arith,
                of_side.high v,
                high-same k (up_to v cut) cube tidy.rising (omega (arith, less)),
                high_here v cut below upper s is_below k,
              ))
          | inr other ↦ omega (
            arith,
            of_side.high u,
            high-other k (up_to v cut) cube u other,
            high_below v cut below upper s is_below k u (λ equal. other (sym equal)),
          )
        ];
      }

  -- the path of the side above, on from the narrowed cube, is the path of the fork
  path_above : (cube : List Literal) → IsTidy k cube → (v cut : ℕ) (below : TreeNode T) (upper : TreeNode T) →
      cut < top k v → (x : Path T) →
      IsPathOf (narrowed_by (above k v cut) cube) upper x → IsPathOf cube (Fork v cut below upper) x
  -- The scenario matches the narrowed cube, so it goes above the cut and finds there what the fork has. The low of v is
  -- at least `cut + 1`, by the cube and by the fork; the ranges of other variables are those of the side.
  path_above cube tidy v cut below upper less x of_side =
      let both = and_parts (holds s (above k v cut)) (matches cube s)
      (sym (matches-narrowed s (above k v cut) cube) ∙ of_side.came) in
      let is_above : cut < number_of s v = let its_low = holds-low s (above k v cut) both.0 in omega (arith, its_low) in
      record {
        came = both.1;
        value = of_side.value ∙ sym (value_above v cut below upper s is_above);
        low = λ u. elim (cases_eq v u) [
          | inl is_v ↦ subst (λ w. low_in x.0 w ≡ max (low_in cube w) (low_at (Fork v cut below upper) s w)) is_v
              (omega (
                arith,
                of_side.low v,
                low-same k (above k v cut) cube tidy.rising,
                low_here v cut below upper s is_above,
              ))
          | inr other ↦ omega (
            arith,
            of_side.low u,
            low-other k (above k v cut) cube u other,
            low_above v cut below upper s is_above u (λ equal. other (sym equal)),
          )
        ];
        high = λ u. elim (cases_eq v u) [
          | inl is_v ↦ subst (λ w. high_in k x.0 w ≡ min (high_in k cube w) (high_at k (Fork v cut below upper) s w))
              is_v
              (omega (
                arith,
                of_side.high v,
                high-same k (above k v cut) cube tidy.rising (omega arith),
                high_above v cut below upper s is_above k v,
                tidy.within v,
              ))
          | inr other ↦
              omega (
                arith,
                of_side.high u,
                high-other k (above k v cut) cube u other,
                high_above v cut below upper s is_above k u,
              )
        ];
      }

  -- of the paths on from a cube, the one that matches the scenario has the value and the ranges it finds
  pub is_path : (node : TreeNode T) (cube : List Literal) → IsTidy k cube → HasCuts k node → (x : Path T) →
      Contains (paths_from k cube node) x → matches x.0 s ≡ true →
      IsPathOf cube node x
  is_path (Leaf y) cube tidy cuts x listed matching = only (Contains-cases (cube, y) [] x listed)
    where
      -- a leaf has one path: the cube that leads to the leaf, with its value
      only : ((cube, y) ≡ x) ⊎ Contains [] x → IsPathOf cube (Leaf y) x
      only (inl is_it) = subst (λ (z : Path T). IsPathOf cube (Leaf y) z) is_it (record {
        came = subst (λ (z : Path T). matches z.0 s ≡ true) (sym is_it) matching;
        value = refl;
        low = λ v. omega arith;
        high = λ v. omega (arith, tidy.within v);
      })
      only (inr none) = absurd (Contains-nil x none)
  is_path (Fork v cut below upper) cube tidy cuts x listed matching =
      elim (Contains-append_cases (paths_from k (narrowed_by (up_to v cut) cube) below)
      (paths_from k (narrowed_by (above k v cut) cube) upper) x listed) [
        | inl in_first ↦ path_below cube tidy v cut below upper cuts.1 x
            (is_path below (narrowed_by (up_to v cut) cube) (tidy_below k cube tidy v cut cuts.1) cuts.2 x in_first
            matching)
        | inr in_second ↦ path_above cube tidy v cut below upper cuts.1 x
            (is_path upper (narrowed_by (above k v cut) cube) (tidy_above k cube tidy v cut cuts.1) cuts.3 x in_second
            matching)
      ]

  -- a scenario that the cube doesn't match is on no path
  none_from : (node : TreeNode T) (cube : List Literal) → IsTidy k cube → HasCuts k node → matches cube s ≡ false →
      length (filter (is_on s) (paths_from k cube node)) ≡ 0
  none_from node cube tidy cuts off = ap length
      (filter_none (is_on s) (paths_from k cube node) (λ x listed. false_from_ne_true (matches x.0 s)
      (λ matching. both_ways (matches cube s) off (is_path node cube tidy cuts x listed matching).came)))

  -- a scenario that the cube matches is on exactly one path
  pub one_from : HasAtMostFaults k s → (node : TreeNode T) (cube : List Literal) → IsTidy k cube → HasCuts k node →
      matches cube s ≡ true →
      length (filter (is_on s) (paths_from k cube node)) ≡ 1
  -- By induction on the tree. A leaf has one path, which the scenario is on. At a fork the scenario goes to one side:
  -- it is on one path of that side by induction, and on none of the other, whose narrowed cube it doesn't match.
  one_from few (Leaf y) cube tidy cuts on = ap length (cond-true (matches cube s) ((cube, y) ∷ []) [] on)
  one_from few (Fork v cut below upper) cube tidy cuts on =
      ap length (filter-append (is_on s) (paths_from k (narrowed_by (up_to v cut) cube) below)
      (paths_from k (narrowed_by (above k v cut) cube) upper))
      ∙ length-append (filter (is_on s) (paths_from k (narrowed_by (up_to v cut) cube) below))
      (filter (is_on s) (paths_from k (narrowed_by (above k v cut) cube) upper))
      ∙ elim (cases_lt cut (number_of s v)) [
        | inr is_below ↦ ap₂ ◌+◌
            (one_from few below (narrowed_by (up_to v cut) cube) (tidy_below k cube tidy v cut cuts.1) cuts.2
            (matches-narrowed s (up_to v cut) cube
            ∙ and_from _ _ (holds-from s (up_to v cut) (omega arith) is_below) on))
            (none_from upper (narrowed_by (above k v cut) cube) (tidy_above k cube tidy v cut cuts.1) cuts.3
            (false_from_ne_true _ (λ matching. let its_low = holds-low s (above k v cut)
            (and_parts (holds s (above k v cut))
            (matches cube s) (sym (matches-narrowed s (above k v cut) cube) ∙ matching)).0 in
            absurd (omega (arith, its_low, is_below)))))
        | inl is_above ↦ ap₂ ◌+◌
            (none_from below (narrowed_by (up_to v cut) cube) (tidy_below k cube tidy v cut cuts.1) cuts.2
            (false_from_ne_true _ (λ matching. let its_high = holds-high s (up_to v cut)
            (and_parts (holds s (up_to v cut))
            (matches cube s) (sym (matches-narrowed s (up_to v cut) cube) ∙ matching)).0 in
            absurd (omega (arith, its_high, is_above)))))
            (one_from few upper (narrowed_by (above k v cut) cube) (tidy_above k cube tidy v cut cuts.1) cuts.3
            (matches-narrowed s (above k v cut) cube
            ∙ and_from _ _ (holds-from s (above k v cut) (omega (arith, is_above)) (number_le_top k s few v)) on))
      ]

-- ---- of a whole tree

-- the cube without literals is tidy
no_literals : (k : ℕ) → IsTidy k []
no_literals k = record { rising = λ i j d i_below j_below. absurd (omega (arith, j_below)); within = λ v. omega arith }

-- given: a good tree and a scenario
module _ {T : Type 0} (k : ℕ) (node : TreeNode T) (good : IsGood k node) (s : Scenario) where
  -- each scenario of at most k faults is on one path of a good tree
  pub one_path : HasAtMostFaults k s → length (filter (is_on s) (paths_of k node)) ≡ 1
  one_path few = one_from k s few node [] (no_literals k) (good_cuts k node good) refl

  -- the path of a scenario has the value and the ranges that it finds
  pub record Found (x : Path T) : Type 0 where
    pub value : x.1 ≡ value_at node s
    pub low : (v : ℕ) → low_in x.0 v ≡ low_at node s v
    pub high : (v : ℕ) → high_in k x.0 v ≡ min (top k v) (high_at k node s v)

  -- each path that a scenario is on has the value and the ranges it finds
  pub found : (x : Path T) → IsOnPath (paths_of k node) s x → Found x
  found x on = let its_path = is_path k s node [] (no_literals k) (good_cuts k node good) x on.stands on.matched in
      record { value = its_path.value; low = λ v. omega (arith, its_path.low v); high = λ v. its_path.high v }
