-- A tree over slices leads each scenario to the cube that it matches. In the lemmas s is a scenario, v a variable, k
-- the most faults, l a literal, and ls are literals.
use Rattle.std.proofs.Common.{arith, cond, zero, suc, [], ◌∷◌, ◌++◌, max, min, ℕ, ◌+◌, ◌-◌, ◌<◌, ◌≤◌, ◌≡◌, ◌==◌, Bool}
use Rattle.std.proofs.Common.{true, false, ◌&&◌, ◌||◌, nat_lt, List, get_or, length, take, Contains, sum_by}
use Rattle.std.proofs.Common.{Option, None, Some, refl, sym, ap, ◌∙◌, subst, ⊎_elim, inl, inr, lt-ltb, le-ltb, eq-eqb}
use Rattle.std.specs.Prelude.{nat_le, slice_set}
use Rattle.std.specs.List.{list_any}
use Rattle.std.proofs.lemmas.Bool.{cases_lt, cases_eq, and_parts, and_from, or_parts, ltb-true, leb-true, cond-true}
use Rattle.std.proofs.lemmas.Bool.{cond-false, both_ways, eqb-true}
use Rattle.std.proofs.Math.Bool.{and-false}
use Rattle.std.proofs.lemmas.Bool.Decides.{nat_tests}
use Rattle.std.proofs.lemmas.List.Folds.{list_all-append}
use Rattle.std.proofs.lemmas.List.{length-append, take_more}
use Rattle.std.proofs.lemmas.List.Elements.{Contains-push_cases}
use Rattle.std.proofs.lemmas.List.Sums.{sum_by_more}
use Rattle.cpg_base.specs.Numbers.{numbers_below}
use Rattle.cpg_base.specs.Variable.{top}
use Rattle.cpg_base.proofs.Lists.{list_any_parts, from_any_false, from_all, numbers-Contains}
use Rattle.cpg_base.proofs.Sums.{sum_changed, sum_by_zeros}
use Rattle.cpg_base.specs.Scenario.{Scenario, number_of}
use Rattle.cpg_cube.specs.declared.literal.Literal.{Literal}
use Rattle.cpg_cube.specs.Cube.{IsRising, holds, matches}
use Rattle.cpg_cube.proofs.CubeLows.{holds-low, holds-high, holds-from}
use Rattle.cpg_tree.specs.TreeNode.{TreeNode, Leaf}
use Rattle.cpg_row_trees.specs.declared.places.TreeGrowth.{TreeGrowth}
use Rattle.cpg_tree.specs.Added.{ForksEnd}
use Rattle.cpg_tree.specs.Flat.{flat}
use Rattle.cpg_tree.proofs.JoinLaws.{split_of}
use Rattle.cpg_tree.specs.declared.space.Lifted.{Lifted}
use Rattle.cpg_tree.specs.declared.space.Space.{Space}
use Rattle.cpg_tree.specs.Space.{IsInSpace, HasAtMostFaults, IsWhole, below_cut, above_cut, reopened_below}
use Rattle.cpg_tree.specs.Decision.{value_at}
use Rattle.cpg_tree.specs.Results.{IsForkOf}
use Rattle.cpg_row_trees.specs.Places.{IsMatched, cube_at, IsPlaceOfMatch}
use Rattle.cpg_row_trees.specs.PlaceHints.{IsOpenCut}
use Rattle.cpg_row_trees.specs.Slices.{IsInRanges, IsForkSpace, IsInside, AreSpaceBounds, IsOwn, IsLastOn, IsEntered}
use Rattle.cpg_row_trees.specs.Slices.{FindsMatches, AddsSliceTree, is_narrow, met_by, narrowed}
use Rattle.cpg_tree.proofs.Spaces.{not_less, set_other, set_same, number_le_top}
use Rattle.cpg_row_trees.proofs.Holding.{matches_more}
use Rattle.cpg_tree.proofs.Demands.{weights_le, without, without_here, without_other}

-- ---- the ranges on the sides of a cut

-- given: a cut of one of the 256 variables in a space, and a scenario
module _ (space : Space) (v cut : ℕ) (there : v < 256) (s : Scenario) where
  -- given: s is in the ranges of the side below the cut
  module _ (long : length space.high ≡ 256) (in_side : IsInRanges (below_cut space v cut) s) where
    -- on the side below the cut, the number of the variable is at most the cut
    pub number_below : number_of s v ≤ cut
    number_below = omega (arith, in_side.high v there, set_same space.high v cut v (omega (arith, long, there)) refl)

    -- a scenario in the ranges of the side below an open cut is in the ranges of the space
    pub range_below : cut < get_or space.high v 0 → IsInRanges space s
    -- the number of v is at most the cut, so at most the old high; the ranges of other variables are the same
    range_below less = record {
      low = in_side.low;
      high = λ u l. elim (cases_eq u v) [
        | inl e ↦ omega (arith, number_below, ap (number_of s) e, less, ap (λ w. get_or space.high w 0) e)
        | inr differ ↦ omega (arith, in_side.high u l, set_other space.high v cut u differ)
      ];
    }

  -- given: s is in the ranges of the side above the cut
  module _ (long : length space.low ≡ 256) (in_side : IsInRanges (above_cut space v cut) s) where
    -- on the side above the cut, the number of the variable is greater than the cut
    pub number_above : cut < number_of s v
    number_above =
        omega (arith, in_side.low v there, set_same space.low v (cut + 1) v (omega (arith, long, there)) refl)

    -- a scenario in the ranges of the side above an open cut is in the ranges of the space
    pub range_above : get_or space.low v 0 ≤ cut → IsInRanges space s
    -- the number of v is above the cut, so at least the old low; the ranges of other variables are the same
    range_above at_most = record {
      low = λ u l. elim (cases_eq u v) [
        | inl e ↦ omega (arith, number_above, ap (number_of s) e, at_most, ap (λ w. get_or space.low w 0) e)
        | inr differ ↦ omega (arith, in_side.low u l, set_other space.low v (cut + 1) u differ)
      ];
      high = in_side.high;
    }

-- a scenario of a space is in its ranges
pub in_range : (space : Space) (s : Scenario) → IsInSpace space s → IsInRanges space s
in_range space s lies = record { low = lies.low; high = lies.high }

-- ---- what leads to the sides

-- a sum over one side of a fork: it differs from the whole by what changed at the fork's variable
sum_of_side : (side whole at_side at_whole narrow n : ℕ) → side + at_whole ≡ whole + at_side → whole ≤ narrow →
    narrow + 1 ≤ n + at_whole → at_side ≤ 1 → side ≤ n
sum_of_side side whole at_side at_whole narrow n changed few more one = omega arith

-- literals can't be as many as needed if a variable that needs one has none
too_few : (literals rest whole at_rest here narrow found : ℕ) → literals ≤ rest → rest + here ≡ whole + at_rest →
    at_rest ≡ 0 → here ≡ 1 → whole ≤ narrow → narrow ≤ found → found ≤ literals → ⊥
too_few literals rest whole at_rest here narrow found few changed none one most enough as_many = omega arith

-- a variable is narrowed once at most
narrowed_le : (k : ℕ) (space : Space) (v : ℕ) → narrowed k space v ≤ 1
narrowed_le k space v = step (nat_lt v 256 && is_narrow k space v)
  where
    -- it counts 1 if it is narrow, and otherwise 0
    step : (b : Bool) → cond b 1 0 ≤ 1
    step true = omega arith
    step false = omega arith

-- given: a space that forks lead to, and a cut that is open on both sides
-- `reached`: the ranges alone say which scenarios are in the space, and at most `narrow` of them are
-- narrower than in all scenarios of at most k faults.
-- `more`: n counts the variable v as well.
module _ (k : ℕ) (space : Space) (v cut narrow n : ℕ) (there : v < 256) (reached : IsForkSpace k space narrow)
    (open_ : IsOpenCut space v cut) (more : narrow + 1 ≤ n + narrowed k space v) where
  -- a side has at most n narrow variables
  one_more : (side : Space) → ((u : ℕ) → (u ≡ v → ⊥) → narrowed k side u ≡ narrowed k space u) →
      sum_by (narrowed k side) (numbers_below 256) ≤ n
  one_more side same = sum_of_side _ _ (narrowed k side v) (narrowed k space v) narrow n
      (sum_changed (narrowed k side) (narrowed k space) 256 v there same) reached.few more (narrowed_le k side v)

  -- the cut is less than the high of its variable
  pub cut_in_range : cut < get_or space.high v 0
  cut_in_range = ltb-true cut (get_or space.high v 0) (and_parts (nat_lt cut (get_or space.high v 0))
      (nat_le 128 v || nat_lt cut (get_or space.low v 0 + space.left)) open_.above).0

  -- the low of the variable is at most the cut
  pub low_in_range : get_or space.low v 0 ≤ cut
  low_in_range = leb-true (get_or space.low v 0) cut open_.below

  -- given: the side below the cut has all scenarios of the space that are up to the cut
  module _ (long : length space.high ≡ 256)
      (goes : (s : Scenario) → IsInSpace space s → number_of s v ≤ cut → IsInSpace (below_cut space v cut) s) where
    -- the scenarios of the side below the cut are those of the space
    pub lies_from_below : (s : Scenario) → HasAtMostFaults k s → IsInSpace (below_cut space v cut) s → IsInSpace space s
    lies_from_below s few lies = reached.by_ranges s few
        (range_below space v cut there s long (in_range (below_cut space v cut) s lies) cut_in_range)

    -- forks lead to the side below the cut, with at most one narrow variable more
    pub reached_below : IsForkSpace k (below_cut space v cut) n
    reached_below = record {
      by_ranges =
          λ s few in_side. goes s (reached.by_ranges s few (range_below space v cut there s long in_side cut_in_range))
          (number_below space v cut there s long in_side);
      few = one_more (below_cut space v cut)
          (λ u differ. ap (λ h. cond (nat_lt u 256 && (nat_lt 0 (get_or space.low u 0) || nat_lt h (top k u))) 1 0)
          (set_other space.high v cut u differ));
    }

  -- given: the side above the cut has all scenarios of the space that are above the cut
  module _ (long : length space.low ≡ 256)
      (goes : (s : Scenario) → IsInSpace space s → cut < number_of s v → IsInSpace (above_cut space v cut) s) where
    -- the scenarios of the side above the cut are those of the space
    pub lies_from_above : (s : Scenario) → HasAtMostFaults k s → IsInSpace (above_cut space v cut) s → IsInSpace space s
    lies_from_above s few lies = reached.by_ranges s few
        (range_above space v cut there s long (in_range (above_cut space v cut) s lies) low_in_range)

    -- forks lead to the side above the cut, with at most one narrow variable more
    pub reached_above : IsForkSpace k (above_cut space v cut) n
    reached_above = record {
      by_ranges =
          λ s few in_side. goes s (reached.by_ranges s few (range_above space v cut there s long in_side low_in_range))
          (number_above space v cut there s long in_side);
      few = one_more (above_cut space v cut)
          (λ u differ. ap (λ l. cond (nat_lt u 256 && (nat_lt 0 l || nat_lt (get_or space.high u 0) (top k u))) 1 0)
          (set_other space.low v (cut + 1) u differ));
    }

-- forks lead to the space of all scenarios of at most k faults, with no variable narrow
pub whole_reached : (k : ℕ) (space : Space) → IsWhole k space →
    ((s : Scenario) → HasAtMostFaults k s → IsInSpace space s) →
    IsForkSpace k space 0
whole_reached k space whole lies = record {
  by_ranges = λ s few in_side. lies s few;
  few = omega (
    arith,
    sum_by_zeros (narrowed k space) (numbers_below 256)
        (λ v there. wide v (numbers-Contains 256 v there)),
  );
}
  where
    -- each high of the space of all scenarios is the variable's top: k for a count, 1 for a value
    high_is : (v : ℕ) → v < 256 → get_or space.high v 0 ≡ top k v
    high_is v there = elim (cases_lt v 128) [
      | inl l ↦ whole.counts v l ∙ sym (cond-true (nat_lt v 128) k 1 (lt-ltb v 128 l))
      | inr l ↦ whole.values v l there ∙ sym (cond-false (nat_lt v 128) k 1 (le-ltb v 128 l))
    ]

    -- a variable with its whole range isn't narrow
    not_narrow : (v low high : ℕ) → low ≡ 0 → high ≡ top k v → (nat_lt 0 low || nat_lt high (top k v)) ≡ false
    not_narrow v low high none all =
        ap (λ n. nat_lt 0 n || nat_lt high (top k v)) none ∙ le-ltb high (top k v) (omega (arith, all))

    -- a variable with its whole range doesn't count as narrow
    wide : (v : ℕ) → v < 256 → narrowed k space v ≡ 0
    wide v there = cond-false {A = ℕ} (nat_lt v 256 && is_narrow k space v) 1 0
        (ap (λ b. nat_lt v 256 && b)
        (not_narrow v (get_or space.low v 0) (get_or space.high v 0) (whole.lows v there) (high_is v there))
        ∙ and-false (nat_lt v 256))

-- ---- as many literals on narrow variables as there are such variables: none is without

-- given: a space that forks lead to, and literals that are on as many of its narrow variables as it has
-- `bounds`: the literals hold in the space and go no further than it; `found` of them are on narrow variables.
module _ (k : ℕ) (space : Space) (ls : List Literal) (narrow found : ℕ) (rising : IsRising ls)
    (reached : IsForkSpace k space narrow) (bounds : AreSpaceBounds k space ls found)
    (enough : narrow ≤ found) where
  -- a narrow variable counts as one
  is_one : (v : ℕ) → v < 256 → is_narrow k space v ≡ true → narrowed k space v ≡ 1
  is_one v there on = cond-true {A = ℕ} (nat_lt v 256 && is_narrow k space v) 1 0
      (and_from (nat_lt v 256) (is_narrow k space v) (lt-ltb v 256 there) on)

  -- a number that is no variable doesn't count as narrow
  is_none : (v : ℕ) → 256 ≤ v → narrowed k space v ≤ 0
  is_none v past = omega (
    arith,
    cond-false {A = ℕ} (nat_lt v 256 && is_narrow k space v) 1 0
        (ap (λ b. b && is_narrow k space v) (le-ltb v 256 past)),
  )

  -- a narrow variable can't be without a literal
  none_without : (v : ℕ) → v < 256 → is_narrow k space v ≡ true → ((l : Literal) → Contains ls l → l.variable ≡ v → ⊥) →
      ⊥
  none_without v there on off =
      let weight : ℕ → ℕ = narrowed k space in
      let few = weights_le (λ (l : Literal). weight l.variable) 256 (without v weight) ls rising
      (λ l c h. omega (arith, without_other v l.variable weight (off l c))) (λ l past. is_none l.variable past) in
      too_few _ _ _ (without v weight v) (weight v) narrow found few
      (sum_changed (without v weight) weight 256 v there (λ u differ. without_other v u weight differ))
      (without_here v weight)
      (is_one v there on) reached.few enough bounds.narrow

  -- each narrow variable has a literal
  has_literal : (v : ℕ) → v < 256 → is_narrow k space v ≡ true → (l : Literal) × Contains ls l × (l.variable ≡ v)
  has_literal v there on = step (list_any (λ (l : Literal). l.variable == v) ls) refl
    where
      -- by whether some literal is on v: if none were, v wouldn't be narrow
      step : (b : Bool) → list_any (λ (l : Literal). l.variable == v) ls ≡ b →
          (l : Literal) × Contains ls l × (l.variable ≡ v)
      step true is = let found_here = list_any_parts (λ (l : Literal). l.variable == v) ls is in
          (found_here.0, found_here.1, eqb-true found_here.0.variable v found_here.2)
      step false same = absurd (none_without v there on (λ l among is. both_ways (l.variable == v)
          (from_any_false (λ (m : Literal). m.variable == v) ls l same among) (eq-eqb l.variable v is)))

  -- given: a scenario s of at most k faults that matches the literals
  module _ (s : Scenario) (few : HasAtMostFaults k s) (all : matches ls s ≡ true) where
    -- at a literal's variable the scenario's number is in the space
    at_literal : (v : ℕ) (l : Literal) → Contains ls l → l.variable ≡ v →
        (get_or space.low v 0 ≤ number_of s v) × (number_of s v ≤ get_or space.high v 0)
    at_literal v l there is =
        let on = from_all (holds s) ls l all there in
        let inside = bounds.inside l there in
        subst (λ (u : ℕ). (get_or space.low u 0 ≤ number_of s u) × (number_of s u ≤ get_or space.high u 0)) is
        (omega (arith, inside.low, holds-low s l on), omega (arith, inside.high, holds-high s l on))

    -- at a variable that isn't narrow every number is in the space
    at_wide : (v : ℕ) → is_narrow k space v ≡ false →
        (get_or space.low v 0 ≤ number_of s v) × (number_of s v ≤ get_or space.high v 0)
    at_wide v off =
        let parts = or_parts (nat_lt 0 (get_or space.low v 0)) (nat_lt (get_or space.high v 0) (top k v)) off in (
          omega (arith, not_less 0 (get_or space.low v 0) parts.0),
          omega (arith, not_less (get_or space.high v 0) (top k v) parts.1, number_le_top k s few v),
        )

    -- at each variable the scenario's number is in the space
    at_each : (v : ℕ) → v < 256 → (b : Bool) → is_narrow k space v ≡ b →
        (get_or space.low v 0 ≤ number_of s v) × (number_of s v ≤ get_or space.high v 0)
    at_each v there true on = let found_here = has_literal v there on in
        at_literal v found_here.0 found_here.1 found_here.2
    at_each v there false off = at_wide v off

    -- a scenario that matches the literals lies in the space
    comes_here : IsInSpace space s
    comes_here = reached.by_ranges s few
        (record {
          low = λ v less. (at_each v less (is_narrow k space v) refl).0;
          high = λ v less. (at_each v less (is_narrow k space v) refl).1;
        })

  -- literals that hold in the space, lie inside it and are on all its narrow variables say which scenarios are in it
  pub own : IsOwn k space ls
  own = record { hold = λ s few lies. bounds.hold s lies; come = comes_here }

-- given: literals that bound a space up to a place
-- `before`: the first i literals are bounds of the space, and `found` counts those on narrow variables.
module _ (k : ℕ) (space : Space) (ls : List Literal) (i found : ℕ) (d : Literal) (there : i < length ls)
    (before : AreSpaceBounds k space (take i ls) found) where
  -- one literal more that holds in the space and lies inside it is among the bounds of the space
  pub bounds_more : ((s : Scenario) → IsInSpace space s → holds s (get_or ls i d) ≡ true) →
      IsInside space (get_or ls i d) → (n : ℕ) →
      n ≤ found + narrowed k space (get_or ls i d).variable →
      AreSpaceBounds k space (take (i + 1) ls) n
  bounds_more holds_here inside_here n most = record {
    hold = λ s lies. matches_more s ls i d there (before.hold s lies) (holds_here s lies);
    inside = λ l c. ⊎_elim (λ (b : Contains (take i ls) l). before.inside l b)
        (λ (q : get_or ls i d ≡ l). subst (IsInside space) q inside_here)
        (Contains-push_cases (take i ls) (get_or ls i d) l
        (subst (λ (xs : List Literal). Contains xs l) (take_more ls i d there) c));
    narrow =
        omega (arith, before.narrow, most, sum_by_more (λ (l : Literal). narrowed k space l.variable) ls i d there);
  }

-- ---- leaves

-- a leaf without a place is right for a slice without cubes
pub finds_nowhere : (cubes : List (List Literal)) (k : ℕ) (space : Space) (from to : ℕ) → to ≤ from →
    FindsMatches cubes k space from to (λ s. None)
finds_nowhere cubes k space from to none = record {
  is = λ s i few lies e. cc;
  lies = λ s j few after before m. absurd (omega (arith, none, after, before));
  comes = λ s j few after before m. absurd (omega (arith, none, after, before));
}

-- two places are equal if the options that hold them are
some_is : (i j : ℕ) → Some i ≡ Some j → i ≡ j
some_is i j is = cc

-- given: a slice of one cube at most, whose scenarios are those of the space
-- `one`: the slice has at most the cube at `from`. `is_own`: the literals of this cube say which scenarios are in the space.
module _ (cubes : List (List Literal)) (k : ℕ) (space : Space) (from to : ℕ) (there : from < length cubes)
    (one : to ≤ from + 1) (is_own : IsOwn k space (cube_at cubes from)) where
  -- the slice has one place
  only_place : (j : ℕ) → from ≤ j → j < to → j ≡ from
  only_place j after before = omega (arith, one, after, before)

  -- a leaf with the place of a cube is right for the slice of that cube, if the cube says which scenarios are in the space
  pub finds_here : FindsMatches cubes k space from to (λ s. Some from)
  finds_here = record {
    is = λ s i few lies is. subst (λ (j : ℕ). IsMatched cubes s j) (some_is from i is)
        (record { there = there; matched = is_own.hold s few lies });
    lies = λ s j few after before m.
        is_own.come s few (subst (λ (i : ℕ). matches (cube_at cubes i) s ≡ true) (only_place j after before) m.matched);
    comes = λ s j few after before m. ap Some (sym (only_place j after before));
  }

-- ---- a fork

-- given: a fork whose sides lead to the matches of two slices that meet at a border
-- `fork`: r is the fork of the two trees at the cut. `low`, `high`: each tree leads to the matches of its slice.
-- `goes_one`, `goes_two`: each scenario of the space is on one side. `back_one`, `back_two`: and each of a side is
-- in the space. `at_most`, `past_cut`: the sides are apart by the cut.
module _ (cubes : List (List Literal)) (k : ℕ) (space one two : Space) (from border to v cut : ℕ)
    (below above r : TreeNode (Option ℕ)) (fork : IsForkOf v cut below above r)
    (low : FindsMatches cubes k one from border (value_at below))
    (high : FindsMatches cubes k two border to (value_at above))
    (goes_one : (s : Scenario) → IsInSpace space s → number_of s v ≤ cut → IsInSpace one s)
    (goes_two : (s : Scenario) → IsInSpace space s → cut < number_of s v → IsInSpace two s)
    (back_one : (s : Scenario) → HasAtMostFaults k s → IsInSpace one s → IsInSpace space s)
    (back_two : (s : Scenario) → HasAtMostFaults k s → IsInSpace two s → IsInSpace space s)
    (at_most : (s : Scenario) → IsInSpace one s → number_of s v ≤ cut)
    (past_cut : (s : Scenario) → IsInSpace two s → cut < number_of s v) where
  -- the fork leads to the matches of both slices
  pub finds_parted : FindsMatches cubes k space from to (value_at r)
  -- a scenario finds a place on the side of the cut to which it goes; a cube before the border is found below, and any other above
  finds_parted = record {
    is = λ s i few lies e. elim (cases_lt cut (number_of s v)) [
      | inl less ↦ high.is s i few (goes_two s lies less) (sym (fork.value_above s less) ∙ e)
      | inr no_more ↦ low.is s i few (goes_one s lies no_more) (sym (fork.value_below s no_more) ∙ e)
    ];
    lies = λ s j few after before m. elim (cases_lt j border) [
      | inl h ↦ back_one s few (low.lies s j few after h m)
      | inr h ↦ back_two s few (high.lies s j few h before m)
    ];
    comes = λ s j few after before m. elim (cases_lt j border) [
      | inl h ↦ fork.value_below s (at_most s (low.lies s j few after h m)) ∙ low.comes s j few after h m
      | inr h ↦ fork.value_above s (past_cut s (high.lies s j few h before m)) ∙ high.comes s j few h before m
    ];
  }

-- given: a fork of a space that forks lead to
module _ (k : ℕ) (space side : Space) (v cut narrow n : ℕ) (there : v < 256) where
  -- given: the side below an open cut, by the ranges and by the scenarios of the space
  module _ (long : length space.high ≡ 256) (reached : IsForkSpace k space narrow) (open_ : IsOpenCut space v cut)
      (more : narrow + 1 ≤ n + narrowed k space v) (is : side ≡ below_cut space v cut)
      (goes : (s : Scenario) → IsInSpace space s → number_of s v ≤ cut → IsInSpace side s) where
    -- a scenario up to the cut lies in the side below
    to_under : (s : Scenario) → IsInSpace space s → number_of s v ≤ cut → IsInSpace (below_cut space v cut) s
    to_under s lies at_most = subst (λ (r : Space). IsInSpace r s) is (goes s lies at_most)

    -- forks lead to the side below the cut
    pub under_reached : IsForkSpace k side n
    under_reached = subst (λ (r : Space). IsForkSpace k r n) (sym is)
        (reached_below k space v cut narrow n there reached open_ more long to_under)

    -- a scenario of the side below the cut is one of the space
    pub back_from_under : (s : Scenario) → HasAtMostFaults k s → IsInSpace side s → IsInSpace space s
    back_from_under s few lies = lies_from_below k space v cut narrow n there reached open_ more long to_under s few
        (subst (λ (r : Space). IsInSpace r s) is lies)

    -- in the side below the number is at most the cut
    under_cut : (s : Scenario) → IsInSpace side s → number_of s v ≤ cut
    under_cut s lies = number_below space v cut there s long
        (in_range (below_cut space v cut) s (subst (λ (r : Space). IsInSpace r s) is lies))

  -- given: the side above an open cut, by the ranges and by the scenarios of the space
  module _ (long : length space.low ≡ 256) (reached : IsForkSpace k space narrow) (open_ : IsOpenCut space v cut)
      (more : narrow + 1 ≤ n + narrowed k space v) (is : side ≡ above_cut space v cut)
      (goes : (s : Scenario) → IsInSpace space s → cut < number_of s v → IsInSpace side s) where
    -- a scenario above the cut lies in the side above
    to_over : (s : Scenario) → IsInSpace space s → cut < number_of s v → IsInSpace (above_cut space v cut) s
    to_over s lies less = subst (λ (r : Space). IsInSpace r s) is (goes s lies less)

    -- forks lead to the side above the cut
    pub over_reached : IsForkSpace k side n
    over_reached = subst (λ (r : Space). IsForkSpace k r n) (sym is)
        (reached_above k space v cut narrow n there reached open_ more long to_over)

    -- a scenario of the side above the cut is one of the space
    pub back_from_over : (s : Scenario) → HasAtMostFaults k s → IsInSpace side s → IsInSpace space s
    back_from_over s few lies = lies_from_above k space v cut narrow n there reached open_ more long to_over s few
        (subst (λ (r : Space). IsInSpace r s) is lies)

    -- in the side above the number is greater than the cut
    over_cut : (s : Scenario) → IsInSpace side s → cut < number_of s v
    over_cut s lies = number_above space v cut there s long
        (in_range (above_cut space v cut) s (subst (λ (r : Space). IsInSpace r s) is lies))

-- given: a space that forks lead to, and its two sides at an open cut. `reached`, `more`: the ranges say which scenarios are in
-- the space, and n counts the variable v as well. `open_`: the cut has numbers on both sides. `is_under`, `is_over`:
-- these are the sides. `goes_under`, `goes_over`: each scenario is in one of them.
module _ (cubes : List (List Literal)) (k : ℕ) (space under over : Space) (from border to v cut narrow n : ℕ)
    (there : v < 256) (lows : length space.low ≡ 256) (highs : length space.high ≡ 256)
    (reached : IsForkSpace k space narrow) (open_ : IsOpenCut space v cut) (more : narrow + 1 ≤ n + narrowed k space v)
    (is_under : under ≡ below_cut space v cut)
    (is_over : over ≡ above_cut space v cut)
    (goes_under : (s : Scenario) → IsInSpace space s → number_of s v ≤ cut → IsInSpace under s)
    (goes_over : (s : Scenario) → IsInSpace space s → cut < number_of s v → IsInSpace over s) where
  -- the trees of the two slices on the sides, under a fork, are a tree of the whole slice
  pub slice_tree_parted : (start middle : ℕ) (old half full new : TreeGrowth) →
      ForksEnd start middle v cut full.items.items new.items.items →
      new.left ≡ full.left →
      start ≡ length old.items.items → middle ≡ length half.items.items →
      AddsSliceTree cubes k under from border old half → AddsSliceTree cubes k over border to half full
      → AddsSliceTree cubes k space from to old new
  -- lo and hi: what is known of the trees of the two slices; fork: the tree that takes their place, which finds the matches of
  -- both by `finds_parted`
  slice_tree_parted start middle old half full new forks as_full first second low high =
      let lo = low.finds in
      let hi = high.finds in
      let fork = forks old.items.items lo.0 hi.0
      (split_of start middle old.items.items half.items.items full.items.items lo.0 hi.0 lo.1 hi.1 first second) in
      record {
        finds = (
          fork.0,
          fork.1,
          finds_parted cubes k space under over from border to v cut lo.0 hi.0 fork.0 fork.2.made lo.2 hi.2
              goes_under goes_over
              (back_from_under k space under v cut narrow n there highs reached open_ more is_under goes_under)
              (back_from_over k space over v cut narrow n there lows reached open_ more is_over
              goes_over)
              (under_cut k space under v cut narrow n there highs reached open_ more is_under goes_under)
              (over_cut k space over v cut narrow n there lows reached open_ more is_over goes_over),
        );
        fewer = omega (arith, low.fewer, high.fewer, as_full);
      }

-- a leaf that finds the matches of a slice is its tree
pub slice_tree_leaf : (cubes : List (List Literal)) (k : ℕ) (space : Space) (from to : ℕ) (x : Option ℕ)
    (old new : TreeGrowth) →
    FindsMatches cubes k space from to (λ s. x) →
    new.items.items ≡ old.items.items ++ flat (Leaf x) → new.left ≤ old.left →
    AddsSliceTree cubes k space from to old new
slice_tree_leaf cubes k space from to x old new finds added fewer =
    record { finds = (Leaf x, added, finds); fewer = fewer }

-- ---- what the literals of a path say

-- a true part adds nothing to a conjunction
with_true : (b : Bool) → (b && true) ≡ b
with_true true = refl
with_true false = refl

-- a conjunction of three, in either grouping
together : (a b c : Bool) → (a && (b && c)) ≡ ((a && b) && c)
together true b c = refl
together false b c = refl

-- the last two parts of a conjunction change places
swapped : (a b c : Bool) → ((a && b) && c) ≡ ((a && c) && b)
swapped true true c = sym (with_true c)
swapped true false c = sym (and-false c)
swapped false b c = refl

-- a number is in two ranges at once exactly if it is in what they have in common
met_parts : (n a b c d : ℕ) →
    (nat_le (max a c) n && nat_le n (min b d)) ≡ ((nat_le a n && nat_le n b) && (nat_le c n && nat_le n d))
met_parts n a b c d = grind (arith, nat_tests)

-- given: a scenario s, and a literal l
module _ (s : Scenario) (l : Literal) where
  -- with a literal put last, literals match exactly if they did and it holds
  pub matches_push : (ls : List Literal) → matches (ls ++ l ∷ []) s ≡ (matches ls s && holds s l)
  matches_push ls = list_all-append (holds s) ls (l ∷ []) ∙ ap (λ b. matches ls s && b) (with_true (holds s l))

  -- what two literals on one variable have in common holds exactly if both do
  met_holds : (m : Literal) → m.variable ≡ l.variable → holds s (met_by m l) ≡ (holds s m && holds s l)
  met_holds m same = met_parts (number_of s m.variable) m.low m.high l.low l.high
      ∙ ap (λ v. (nat_le m.low (number_of s m.variable) && nat_le (number_of s m.variable) m.high)
      && (nat_le l.low (number_of s v) && nat_le (number_of s v) l.high)) same

  -- setting a literal to what it has in common with another adds the other
  matches_met : (ls : List Literal) (i : ℕ) (m : Literal) → i < length ls → get_or ls i m ≡ m →
      m.variable ≡ l.variable →
      matches (slice_set ls i (met_by m l)) s ≡ (matches ls s && holds s l)
  -- by induction on the literals
  matches_met [] i m there is same = absurd (omega (arith, there))
  matches_met (x ∷ xs) zero m there is same =
      ap (λ b. b && matches xs s) (met_holds m same) ∙ swapped (holds s m) (holds s l) (matches xs s) ∙
      ap (λ (y : Literal). (holds s y && matches xs s) && holds s l) (sym is)
  matches_met (x ∷ xs) (suc i) m there is same =
      ap (λ b. holds s x && b) (matches_met xs i m (omega (arith, there)) is same)
      ∙ together (holds s x) (matches xs s) (holds s l)

-- setting a literal and then the old one again leaves the list as it was
last_back : (ls : List Literal) (i : ℕ) (m l : Literal) → get_or ls i m ≡ m → slice_set (slice_set ls i l) i m ≡ ls
last_back [] i m l is = refl
last_back (x ∷ xs) zero m l is = ap (λ (y : Literal). y ∷ xs) (sym is)
last_back (x ∷ xs) (suc i) m l is = ap (λ (ys : List Literal). x ∷ ys) (last_back xs i m l is)

-- setting a literal leaves the list as long
as_long : (ls : List Literal) (i : ℕ) (l : Literal) → length (slice_set ls i l) ≡ length ls
as_long [] i l = refl
as_long (x ∷ xs) zero l = refl
as_long (x ∷ xs) (suc i) l = ap suc (as_long xs i l)

-- the literals before the last one are those it was added to
before_last : (ls : List Literal) (l : Literal) → take (length (ls ++ l ∷ []) - 1) (ls ++ l ∷ []) ≡ ls
before_last ls l = ap (λ n. take n (ls ++ l ∷ [])) (omega (arith, length-append ls (l ∷ []))) ∙ front ls
  where
    -- as many literals as a list has, taken from it with one more behind it, are the list
    front : (xs : List Literal) → take (length xs) (xs ++ l ∷ []) ≡ xs
    front [] = refl
    front (x ∷ xs) = ap (λ (ys : List Literal). x ∷ ys) (front xs)

-- a literal put last is entered, and leaving takes it off
pub entered_more : (ls : List Literal) (l : Literal) → IsEntered ls l (ls ++ l ∷ []) None
entered_more ls l = record {
  both = λ s. matches_push s l ls;
  back = before_last ls l;
  some = omega (arith, length-append ls (l ∷ []));
}

-- a literal that is met with the last one is entered, and leaving sets the last one back
pub entered_last : (ls new : List Literal) (l m : Literal) → IsLastOn ls l.variable m →
    new ≡ slice_set ls (length ls - 1) (met_by m l) →
    IsEntered ls l new (Some m)
entered_last ls new l m last is = subst (λ (xs : List Literal). IsEntered ls l xs (Some m)) (sym is) (record {
  both = λ s. matches_met s l ls (length ls - 1) m (omega (arith, last.some)) last.last last.on;
  back = ap (λ n. slice_set (slice_set ls (length ls - 1) (met_by m l)) (n - 1) m)
      (as_long ls (length ls - 1) (met_by m l)) ∙ last_back ls (length ls - 1) m (met_by m l) last.last;
  some = omega (arith, as_long ls (length ls - 1) (met_by m l), last.some);
})

-- given: a side of a fork
-- `reached`, `more`: the ranges say which scenarios are in the space, and n counts the variable v as well. `is_own`: the path
-- `old` says which scenarios are in the space.
module _ (k : ℕ) (space side : Space) (v cut narrow n : ℕ) (there : v < 256) (reached : IsForkSpace k space narrow)
    (open_ : IsOpenCut space v cut) (more : narrow + 1 ≤ n + narrowed k space v)
    (old new : List Literal) (is_own : IsOwn k space old) where
  -- a path that says which scenarios are in the space, with the range below the cut, says which scenarios are below the cut
  pub own_under : length space.high ≡ 256 → side ≡ below_cut space v cut →
      ((s : Scenario) → IsInSpace space s → number_of s v ≤ cut → IsInSpace side s)
      → (l : Literal) → l ≡ record {
        variable = v;
        low = 0;
        high = cut;
      } → ((s : Scenario) → matches new s ≡ (matches old s && holds s l)) → IsOwn k side new
  own_under long is goes l says both = record {
    -- a scenario of the side is one of the space, so it matches the path from before, and its number is up to the cut
    hold = λ s few lies. both s ∙ and_from (matches old s) (holds s l) (is_own.hold s few
        (back_from_under k space side v cut narrow n there long reached open_ more is goes s few lies))
        (ap (holds s) says ∙ holds-from s (record { variable = v; low = 0; high = cut }) (omega arith)
        (under_cut k space side v cut narrow n there long reached open_ more is goes s lies));
    -- one that matches the new path matches the old one, so it is in the space, and its number is up to the cut
    come = λ s few all.
        let parts = and_parts (matches old s) (holds s l) (sym (both s) ∙ all) in
        goes s (is_own.come s few parts.0)
        (holds-high s (record { variable = v; low = 0; high = cut }) (ap (holds s) (sym says) ∙ parts.1));
  }

  -- a path that says which scenarios are in the space, with the range above the cut, says which scenarios are above the cut
  pub own_over : length space.low ≡ 256 → side ≡ above_cut space v cut →
      ((s : Scenario) → IsInSpace space s → cut < number_of s v → IsInSpace side s)
      → (l : Literal) → l ≡ record {
        variable = v;
        low = cut + 1;
        high = top k v;
      } → ((s : Scenario) → matches new s ≡ (matches old s && holds s l)) → IsOwn k side new
  own_over long is goes l says both = record {
    -- a scenario of the side is one of the space, so it matches the path from before, and its number is above the cut
    hold = λ s few lies. both s ∙ and_from (matches old s) (holds s l) (is_own.hold s few
        (back_from_over k space side v cut narrow n there long reached open_ more is goes s few lies))
        (ap (holds s) says ∙ holds-from s (record { variable = v; low = cut + 1; high = top k v })
        (omega (arith, over_cut k space side v cut narrow n there long reached open_ more is goes s lies))
        (number_le_top k s few v));
    -- one that matches the new path matches the old one, so it is in the space, and its number is above the cut
    come = λ s few all.
        let parts = and_parts (matches old s) (holds s l) (sym (both s) ∙ all) in
        let low : cut + 1 ≤ number_of s v =
        holds-low s (record { variable = v; low = cut + 1; high = top k v }) (ap (holds s) (sym says) ∙ parts.1) in
        goes s (is_own.come s few parts.0) (omega (arith, low));
  }

-- in the space of all scenarios of at most k faults, no literal is needed to say which are in it
pub whole_own : (k : ℕ) (space : Space) → ((s : Scenario) → HasAtMostFaults k s → IsInSpace space s) → IsOwn k space []
whole_own k space lies = record { hold = λ s few in_space. refl; come = λ s few all. lies s few }

-- ---- a side that was closed and is put back

-- given: a space, that space with a side closed, what a walk of the side left, which is the same, and the space
-- reopened
module _ (space closed walked reopened : Space) (v : ℕ) (same : walked ≡ closed) where
  -- reopening the side above after the side below was done gives back the space
  pub above_again : (high : ℕ) → reopened ≡ below_cut walked v high → below_cut closed v high ≡ space → reopened ≡ space
  above_again high is back = is ∙ ap (λ (r : Space). below_cut r v high) same ∙ back

  -- reopening the side below after the side above was done gives back the space
  pub below_again : (was : Lifted) → reopened ≡ reopened_below walked v was → reopened_below closed v was ≡ space →
      reopened ≡ space
  below_again was is back = is ∙ ap (λ (r : Space). reopened_below r v was) same ∙ back

-- given: a space, the same space given back, and the side above the cut
module _ (space again over : Space) (v cut : ℕ) (back : again ≡ space) where
  -- the side above the cut of a space that was given back is that of the space
  pub over_again : over ≡ above_cut again v cut → over ≡ above_cut space v cut
  over_again is = is ∙ ap (λ (r : Space). above_cut r v cut) back

  -- the side above the cut of the space that was given back has the scenarios that it had
  pub goes_again : ((s : Scenario) → IsInSpace again s → cut < number_of s v → IsInSpace over s) → (s : Scenario) →
      IsInSpace space s → cut < number_of s v →
      IsInSpace over s
  goes_again goes s lies less = goes s (subst (λ (r : Space). IsInSpace r s) (sym back) lies) less

-- ---- all cubes

-- given: a scenario of the space, and a slice that has all cubes
-- `few`, `lies`: s has at most k faults and is in the space. `all`: the slice reaches to the last cube.
module _ (cubes : List (List Literal)) (k : ℕ) (space : Space) (s : Scenario) (few : HasAtMostFaults k s)
    (lies : IsInSpace space s) (to : ℕ) (all : length cubes ≤ to) where
  -- a place that is missing isn't there
  none_some : (j : ℕ) (x : Option ℕ) → x ≡ None → x ≡ Some j → ⊥
  none_some j x e h = cc

  -- a tree that finds the matches comes to the cube that the scenario matches
  comes_to : (place : Scenario → Option ℕ) → FindsMatches cubes k space 0 to place → (j : ℕ) → IsMatched cubes s j →
      place s ≡ Some j
  comes_to place finds j matched = finds.comes s j few (omega arith) (omega (arith, matched.there, all)) matched

  -- a tree that finds the matches gives the place of the cube that the scenario matches
  is_place : (place : Scenario → Option ℕ) → FindsMatches cubes k space 0 to place → (x : Option ℕ) → place s ≡ x →
      IsPlaceOfMatch cubes x s
  is_place place finds None is = λ j matched. none_some j (place s) is (comes_to place finds j matched)
  is_place place finds (Some i) is =
      (finds.is s i few lies is, λ j matched. sym (some_is i j (sym is ∙ comes_to place finds j matched)))

  -- a tree that finds the matches of all cubes gives each scenario the place of the one cube that it matches
  pub is_place_of_match : (n : TreeNode (Option ℕ)) → FindsMatches cubes k space 0 to (value_at n) →
      IsPlaceOfMatch cubes (value_at n s) s
  is_place_of_match n finds = is_place (value_at n) finds (value_at n s) refl
