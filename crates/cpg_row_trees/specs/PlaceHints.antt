-- The places of cubes that scenarios of a space may match, as a tree is built: at each fork they are parted in two lists.
use Rattle.std.specs.Prelude.{ℕ, ◌≡◌, ◌≤◌, ◌<◌, true, List, Option, None, Some, Contains, map}
use Rattle.cpg_base.specs.Scenario.{Scenario, number_of}
use Rattle.cpg_cube.specs.Cube.{holds, matches}
use Rattle.cpg_cube.specs.declared.literal.Literal.{Literal}
use Rattle.cpg_row_trees.specs.declared.places.VariableRange.{VariableRange}
use Rattle.cpg_row_trees.specs.declared.places.PlaceHint.{PlaceHint}
use Rattle.cpg_row_trees.specs.declared.places.PlacesTop.{PlacesTop}
use Rattle.cpg_row_trees.specs.declared.places.PlacesTop.TheVariants.{Leaf, Fork, Unknown}
use Rattle.cpg_row_trees.specs.declared.places.TreeGrowth.{TreeGrowth}
use Rattle.cpg_tree.specs.declared.space.Space.{Space}
use Rattle.cpg_tree.specs.Space.{IsInSpace, is_open_below, is_open_above}
use Rattle.cpg_tree.specs.Added.{AddsTree}
use Rattle.cpg_row_trees.specs.Places.{IsMatched, HoldsInSpace}

-- the places that hints are for
abbrev pub places_of : List PlaceHint → List ℕ
places_of hints = map (λ (e : PlaceHint). e.place) hints

-- the literal l holds in each scenario that the literals match
abbrev pub IsImpliedBy : List Literal → Literal → Type 0
IsImpliedBy literals l = (s : Scenario) → matches literals s ≡ true → holds s l ≡ true

-- the scenario matches the cube at place i, and of the given places no other one's
pub record IsOnlyMatch (cubes : List (List Literal)) (places : List ℕ) (s : Scenario) (i : ℕ) : Type 0 where
  -- the scenario matches the cube at this place
  pub is : IsMatched cubes s i
  -- of the given places it matches no other one's cube
  pub only : (j : ℕ) → Contains places j → IsMatched cubes s j → j ≡ i

-- the answer is the only one of the given places whose cube the scenario matches, or None if it matches none of them
abbrev pub IsMatchAmong : List (List Literal) → List ℕ → Option ℕ → Scenario → Type 0
IsMatchAmong cubes places None s = (j : ℕ) → Contains places j → IsMatched cubes s j → ⊥
IsMatchAmong cubes places (Some i) s = IsOnlyMatch cubes places s i

-- each given place whose cube some scenario with `fits` matches is kept
abbrev pub KeepsWhere : List (List Literal) → (Scenario → Type 0) → List ℕ → List ℕ → Type 0
KeepsWhere cubes fits places kept =
    (s : Scenario) (i : ℕ) → fits s → Contains places i → IsMatched cubes s i → Contains kept i

-- the new list has the place if some scenario fits, and all places of the old one
pub record KeepsPlace (fits : Scenario → Type 0) (place : ℕ) (old new : List PlaceHint) : Type 0 where
  -- no place of the old list is left out
  pub earlier : (i : ℕ) → Contains (places_of old) i → Contains (places_of new) i
  -- the place is in the new list if some scenario fits
  pub this : (s : Scenario) → fits s → Contains (places_of new) place

-- where the literals match, the number of v is in the range; a high of 255, the greatest byte, is no bound
pub record IsVariableRange (literals : List Literal) (v : ℕ) (range : VariableRange) : Type 0 where
  -- its low is a lower bound
  pub low : (s : Scenario) → matches literals s ≡ true → range.low ≤ number_of s v
  -- its high is an upper bound, unless it is 255
  pub high : (s : Scenario) → matches literals s ≡ true → range.high < 255 → number_of s v ≤ range.high

-- the space has numbers of v on both sides of the cut
pub record IsOpenCut (space : Space) (v cut : ℕ) : Type 0 where
  -- some numbers of the space are up to the cut
  pub below : is_open_below space v cut ≡ true
  -- some are above it
  pub above : is_open_above space v cut ≡ true

-- What stands at the top of the tree of some places: a leaf with the match among them in each scenario of the space, or a
-- fork at a cut that is open on both sides. `Unknown` promises nothing.
abbrev pub IsPlacesTop : List (List Literal) → Space → List ℕ → PlacesTop → Type 0
IsPlacesTop cubes space places (Leaf x) = (s : Scenario) → IsInSpace space s → IsMatchAmong cubes places x s
IsPlacesTop cubes space places (Fork c) = IsOpenCut space c.variable c.most
IsPlacesTop cubes space places Unknown = Unit {0}

-- A tree is added that in each scenario of the space has the match among the places; `left`, what the tree may still cost,
-- doesn't grow.
pub record AddsPlaceTree (cubes : List (List Literal)) (space : Space) (places : List ℕ)
    (old new : TreeGrowth) : Type 0 where
  -- the tree that is added leads each scenario of the space to the match
  pub found : AddsTree (HoldsInSpace (IsMatchAmong cubes places) space) old.items.items new.items.items
  -- no more may be spent than before
  pub fewer : new.left ≤ old.left
