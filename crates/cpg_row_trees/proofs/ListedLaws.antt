-- A tree over cubes that were read off it leads each scenario to the cube that it matches. In the lemmas s is a
-- scenario, k the most faults, and ls are literals.
use Rattle.std.proofs.Common.{arith, ℕ, ◌+◌, ◌<◌, ◌≤◌, ◌≡◌, true, List, get_or, length, take, sum_by}
use Rattle.std.proofs.Common.{Option, Some, refl, sym, ap, ◌∙◌, subst}
use Rattle.std.specs.Prelude.{IfSome}
use Rattle.std.proofs.lemmas.Bool.{and_parts}
use Rattle.std.proofs.lemmas.List.{take_all, take_more}
use Rattle.cpg_base.specs.Numbers.{numbers_below}
use Rattle.cpg_base.specs.Scenario.{Scenario, number_of}
use Rattle.cpg_cube.specs.declared.literal.Literal.{Literal}
use Rattle.cpg_cube.specs.Cube.{holds, matches}
use Rattle.cpg_cube.proofs.CubeLows.{holds-low, holds-high}
use Rattle.cpg_row_trees.specs.declared.places.TreeGrowth.{TreeGrowth}
use Rattle.cpg_tree.specs.Added.{ForksEnd}
use Rattle.cpg_tree.specs.declared.space.Space.{Space}
use Rattle.cpg_tree.specs.Space.{IsInSpace, below_cut, above_cut}
use Rattle.cpg_row_trees.specs.PlaceHints.{IsOpenCut}
use Rattle.cpg_row_trees.specs.Slices.{IsForkSpace, IsInside, IsOwn, AddsSliceTree, narrowed}
use Rattle.cpg_row_trees.specs.Listed.{AreRangesAll, IsOwnOn}
use Rattle.cpg_tree.proofs.Spaces.{set_same}
use Rattle.cpg_row_trees.proofs.Holding.{matches_more}
use Rattle.cpg_row_trees.proofs.SliceLaws.{cut_in_range, low_in_range, under_reached, over_reached, back_from_under}
use Rattle.cpg_row_trees.proofs.SliceLaws.{back_from_over, slice_tree_parted, matches_push}

-- ---- one literal more

-- given: the literals of a cube, a place among them, and a scenario; l is what would be read behind the last one
module _ (ls : List Literal) (i : ℕ) (l : Literal) (there : i < length ls) (s : Scenario) where
  -- a scenario that one literal more matches is matched by those before and by it
  less_matches : matches (take (i + 1) ls) s ≡ true → (matches (take i ls) s ≡ true) × (holds s (get_or ls i l) ≡ true)
  less_matches all = and_parts (matches (take i ls) s) (holds s (get_or ls i l))
      (sym (matches_push s (get_or ls i l) (take i ls))
      ∙ ap (λ (xs : List Literal). matches xs s) (sym (take_more ls i l there)) ∙ all)

-- if a cube's scenarios are those of the space, its literals and the range of any variable say which scenarios are in it
pub own_on : (k : ℕ) (space : Space) (ls : List Literal) (v : ℕ) → IsOwn k space ls → IsOwnOn k space ls v
own_on k space ls v is_own = record { hold = is_own.hold; come = λ s few all low high. is_own.come s few all }

-- a literal that holds in the space and is inside it says all of its variable
pub own_more : (k : ℕ) (space : Space) (ls : List Literal) (i : ℕ) (l : Literal) → i < length ls →
    IsOwnOn k space (take i ls) (get_or ls i l).variable →
    ((s : Scenario) → IsInSpace space s → holds s (get_or ls i l) ≡ true) × IsInside space (get_or ls i l) →
    IsOwn k space (take (i + 1) ls)
-- the literal holds in the whole space; and a scenario that it matches has a number of its variable within the space's range
own_more k space ls i l there before known = record {
  hold = λ s few lies. matches_more s ls i l there (before.hold s few lies) (known.0 s lies);
  come = λ s few all.
      let parts = less_matches ls i l there s all in
      let inside = known.1 in
      before.come s few parts.0 (omega (arith, inside.low, holds-low s (get_or ls i l) parts.1))
      (omega (arith, inside.high, holds-high s (get_or ls i l) parts.1));
}

-- the same for a literal l that was read at place i, and is on v
pub own_next : (k : ℕ) (space : Space) (ls : List Literal) (i : ℕ) (l : Literal) (v : ℕ) → i < length ls →
    l ≡ get_or ls i l → l.variable ≡ v →
    IsOwnOn k space (take i ls) v →
    ((s : Scenario) → IsInSpace space s → holds s l ≡ true) × IsInside space l → IsOwn k space (take (i + 1) ls)
own_next k space ls i l v there is on before known = own_more k space ls i l there
    (subst (λ (u : ℕ). IsOwnOn k space (take i ls) u) (sym on ∙ ap (λ (m : Literal). m.variable) is) before)
    (subst (λ (m : Literal). ((s : Scenario) → IsInSpace space s → holds s m ≡ true) × IsInside space m) is known)

-- if a cube's literals up to a depth past its end say which scenarios are in the space, the whole cube does
pub own_all : (k : ℕ) (space : Space) (ls : List Literal) (i : ℕ) → length ls ≤ i → IsOwn k space (take i ls) →
    IsOwn k space ls
own_all k space ls i past = subst (IsOwn k space) (take_all i ls past)

-- ---- the sides of a fork

-- a number is at most itself
le_self : (n : ℕ) → n ≤ n
le_self n = omega arith

-- a number is at most itself with more added
le_more : (n m : ℕ) → n + 1 ≤ (n + 1) + m
le_more n m = omega arith

-- given: a space, and a cut of one of its variables
-- `ranges`: the ranges of the space alone say which scenarios are in it; `open_`: it has numbers on both sides of the cut
module _ (k : ℕ) (space side : Space) (v cut : ℕ) (there : v < 256) (ranges : AreRangesAll k space)
    (open_ : IsOpenCut space v cut) where
  -- the space is one that a fork comes to
  reached : IsForkSpace k space (sum_by (narrowed k space) (numbers_below 256))
  reached = record { by_ranges = ranges; few = le_self (sum_by (narrowed k space) (numbers_below 256)) }

  -- one more than the narrow variables leaves room for the one of the cut
  more : (sum_by (narrowed k space) (numbers_below 256)) + 1
      ≤ ((sum_by (narrowed k space) (numbers_below 256)) + 1) + narrowed k space v
  more = le_more (sum_by (narrowed k space) (numbers_below 256)) (narrowed k space v)

  -- the cut is below the high
  below_high : cut < get_or space.high v 0
  below_high = cut_in_range k space v cut (sum_by (narrowed k space) (numbers_below 256))
      ((sum_by (narrowed k space) (numbers_below 256)) + 1) there reached open_ more

  -- the cut isn't below the low
  above_low : get_or space.low v 0 ≤ cut
  above_low = low_in_range k space v cut (sum_by (narrowed k space) (numbers_below 256))
      ((sum_by (narrowed k space) (numbers_below 256)) + 1) there reached open_ more

  -- given: the side below the cut has all scenarios of the space that are up to the cut
  module _ (long : length space.high ≡ 256) (is : side ≡ below_cut space v cut)
      (goes : (s : Scenario) → IsInSpace space s → number_of s v ≤ cut → IsInSpace side s) where
    -- the ranges alone say which scenarios are in the space below the cut
    pub ranges_under : AreRangesAll k side
    ranges_under = (under_reached k space side v cut (sum_by (narrowed k space) (numbers_below 256))
        ((sum_by (narrowed k space) (numbers_below 256)) + 1)
        there long reached open_ more is goes).by_ranges

    -- below the cut the low is as before
    low_as_before : get_or side.low v 0 ≡ get_or space.low v 0
    low_as_before = ap (λ (r : Space). get_or r.low v 0) is

    -- below the cut the high is the cut
    high_is_cut : get_or side.high v 0 ≡ cut
    high_is_cut =
        ap (λ (r : Space). get_or r.high v 0) is ∙ set_same space.high v cut v (omega (arith, long, there)) refl

    -- literals that say with the variable's range which scenarios are in the space say it of the space below the cut, too
    pub on_under : (ls : List Literal) → IsOwnOn k space ls v → IsOwnOn k side ls v
    -- in the space below, the range of v is that of the space up to the cut
    on_under ls own = record {
      hold = λ s few lies. own.hold s few (back_from_under k space side v cut
          (sum_by (narrowed k space) (numbers_below 256)) ((sum_by (narrowed k space) (numbers_below 256)) + 1)
          there long reached open_ more is goes s few lies);
      come = λ s few all low high.
          let at_most : number_of s v ≤ cut = omega (arith, high, high_is_cut) in
          goes s (own.come s few all (omega (arith, low, low_as_before)) (omega (arith, at_most, below_high))) at_most;
    }

  -- given: the side above the cut has all scenarios of the space that are above the cut
  module _ (long : length space.low ≡ 256) (is : side ≡ above_cut space v cut)
      (goes : (s : Scenario) → IsInSpace space s → cut < number_of s v → IsInSpace side s) where
    -- the ranges alone say which scenarios are in the space above the cut
    pub ranges_over : AreRangesAll k side
    ranges_over = (over_reached k space side v cut (sum_by (narrowed k space) (numbers_below 256))
        ((sum_by (narrowed k space) (numbers_below 256)) + 1)
        there long reached open_ more is goes).by_ranges

    -- above the cut the low is the next number
    low_is_next : get_or side.low v 0 ≡ cut + 1
    low_is_next =
        ap (λ (r : Space). get_or r.low v 0) is ∙ set_same space.low v (cut + 1) v (omega (arith, long, there)) refl

    -- above the cut the high is as before
    high_as_before : get_or side.high v 0 ≡ get_or space.high v 0
    high_as_before = ap (λ (r : Space). get_or r.high v 0) is

    -- literals that say with the variable's range which scenarios are in the space say it of the space above the cut, too
    pub on_over : (ls : List Literal) → IsOwnOn k space ls v → IsOwnOn k side ls v
    -- in the space above, the range of v is that of the space from the cut on
    on_over ls own = record {
      hold = λ s few lies. own.hold s few (back_from_over k space side v cut
          (sum_by (narrowed k space) (numbers_below 256)) ((sum_by (narrowed k space) (numbers_below 256)) + 1)
          there long reached open_ more is goes s few lies);
      come = λ s few all low high.
          let past : cut < number_of s v = omega (arith, low, low_is_next) in
          goes s (own.come s few all (omega (arith, past, above_low)) (omega (arith, high, high_as_before))) past;
    }

-- given: a space whose ranges alone say which scenarios are in it, and its two sides at an open cut
-- `is_under`, `is_over`: the sides are the space below and above the cut. `goes_under`, `goes_over`: each scenario of
-- the space is in one of them.
module _ (cubes : List (List Literal)) (k : ℕ) (space under over : Space) (from border to v cut : ℕ) (there : v < 256)
    (lows : length space.low ≡ 256) (highs : length space.high ≡ 256)
    (ranges : AreRangesAll k space) (open_ : IsOpenCut space v cut) (is_under : under ≡ below_cut space v cut)
    (is_over : over ≡ above_cut space v cut)
    (goes_under : (s : Scenario) → IsInSpace space s → number_of s v ≤ cut → IsInSpace under s)
    (goes_over : (s : Scenario) → IsInSpace space s → cut < number_of s v → IsInSpace over s) where
  -- the trees of the two slices on the sides, under a fork, are a tree of the whole slice
  pub listed_parted : (start middle : ℕ) (old half full new : TreeGrowth) →
      ForksEnd start middle v cut full.items.items new.items.items →
      new.left ≡ full.left →
      start ≡ length old.items.items → middle ≡ length half.items.items →
      AddsSliceTree cubes k under from border old half → AddsSliceTree cubes k over border to half full
      → AddsSliceTree cubes k space from to old new
  listed_parted = slice_tree_parted cubes k space under over from border to v cut
      (sum_by (narrowed k space) (numbers_below 256)) ((sum_by (narrowed k space) (numbers_below 256)) + 1) there
      lows highs (reached k space under v cut there ranges open_) open_
      (more k space under v cut there ranges open_) is_under is_over goes_under goes_over

-- what holds for any answer that is there holds for this one
pub at_some : (P : ℕ → Type 0) (o : Option ℕ) (to : ℕ) → o ≡ Some to → IfSome o P → P to
at_some P o to is if_some = subst (λ (r : Option ℕ). IfSome r P) is if_some
