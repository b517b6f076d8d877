-- Cubes that stand in the order in which a tree lists them: the cubes of a place of the tree are a slice, those from one
-- place of the list up to another.
use Rattle.std.specs.Prelude.{ℕ, ◌+◌, ◌-◌, ◌≡◌, ◌≤◌, ◌<◌, Bool, ◌&&◌, ◌||◌, nat_lt, true, if◌then◌else◌, List, Option}
use Rattle.std.specs.Prelude.{None, Some, get_or, length, max, min, slice_set, sum_by, take, Contains}
use Rattle.cpg_base.specs.Numbers.{numbers_below}
use Rattle.cpg_base.specs.Variable.{top}
use Rattle.cpg_base.specs.Scenario.{Scenario, number_of}
use Rattle.cpg_cube.specs.Cube.{holds, matches}
use Rattle.cpg_cube.specs.declared.literal.Literal.{Literal}
use Rattle.cpg_row_trees.specs.declared.slices.SliceTop.{SliceTop}
use Rattle.cpg_row_trees.specs.declared.slices.ForkSides.{ForkSides}
use Rattle.cpg_row_trees.specs.declared.slices.SliceTop.TheVariants.{Leaf, Fork, Unknown}
use Rattle.cpg_row_trees.specs.declared.places.TreeGrowth.{TreeGrowth}
use Rattle.cpg_tree.specs.declared.space.Space.{Space}
use Rattle.cpg_tree.specs.Space.{IsInSpace, HasAtMostFaults}
use Rattle.cpg_tree.specs.Decision.{value_at}
use Rattle.cpg_tree.specs.Added.{AddsTree}
use Rattle.cpg_row_trees.specs.Places.{IsMatched}
use Rattle.cpg_row_trees.specs.PlaceHints.{IsOpenCut}

-- each number of a scenario is in the space's range, whatever faults are left
pub record IsInRanges (space : Space) (s : Scenario) : Type 0 where
  -- no number is below the low of its variable
  pub low : (v : ℕ) → v < 256 → get_or space.low v 0 ≤ number_of s v
  -- none is above the high
  pub high : (v : ℕ) → v < 256 → number_of s v ≤ get_or space.high v 0

-- whether the range of v is narrower than that of all scenarios of at most k faults
abbrev pub is_narrow : ℕ → Space → ℕ → Bool
is_narrow k space v = nat_lt 0 (get_or space.low v 0) || nat_lt (get_or space.high v 0) (top k v)

-- 1 if v is one of the 256 variables and its range is narrower, and otherwise 0: to be summed up
abbrev pub narrowed : ℕ → Space → ℕ → ℕ
narrowed k space v = if nat_lt v 256 && is_narrow k space v then 1 else 0

-- what is known of a space that forks lead to; `narrow` is how many of its variables may be narrowed
pub record IsForkSpace (k : ℕ) (space : Space) (narrow : ℕ) : Type 0 where
  -- a scenario of at most k faults is in the space if its numbers are in range
  pub by_ranges : (s : Scenario) → HasAtMostFaults k s → IsInRanges space s → IsInSpace space s
  -- at most `narrow` variables have a narrower range than in all scenarios of at most k faults
  pub few : sum_by (narrowed k space) (numbers_below 256) ≤ narrow

-- all numbers of a literal's range are in the space's range of its variable
pub record IsInside (space : Space) (l : Literal) : Type 0 where
  -- the literal's low isn't below that of the space
  pub low : get_or space.low l.variable 0 ≤ l.low
  -- its high isn't above that of the space
  pub high : l.high ≤ get_or space.high l.variable 0

-- the literals say no less and no more than the space does of their variables, at least `found` of which are narrowed
pub record AreSpaceBounds (k : ℕ) (space : Space) (literals : List Literal) (found : ℕ) : Type 0 where
  -- they hold in the whole space
  pub hold : (s : Scenario) → IsInSpace space s → matches literals s ≡ true
  -- none has a number outside the space's range
  pub inside : (l : Literal) → Contains literals l → IsInside space l
  -- at least `found` are on narrowed variables
  pub narrow : found ≤ sum_by (λ (l : Literal). narrowed k space l.variable) literals

-- the scenarios of at most k faults in the space are those that match the literals
pub record IsOwn (k : ℕ) (space : Space) (literals : List Literal) : Type 0 where
  -- where a scenario is in the space, the literals hold
  pub hold : (s : Scenario) → HasAtMostFaults k s → IsInSpace space s → matches literals s ≡ true
  -- where they hold, it is in the space
  pub come : (s : Scenario) → HasAtMostFaults k s → matches literals s ≡ true → IsInSpace space s

-- `place` finds the cubes of a slice, those from `from` up to `to`, in the scenarios of the space of at most k faults
pub record FindsMatches (cubes : List (List Literal)) (k : ℕ) (space : Space) (from to : ℕ)
    (place : Scenario → Option ℕ) : Type 0 where
  -- a scenario of the space matches the cube whose place is found
  pub is : (s : Scenario) (i : ℕ) → HasAtMostFaults k s → IsInSpace space s → place s ≡ Some i → IsMatched cubes s i
  -- a scenario that matches a cube of the slice is in the space, and the place of that cube is found
  pub lies : (s : Scenario) (j : ℕ) → HasAtMostFaults k s → from ≤ j → j < to → IsMatched cubes s j → IsInSpace space s
  pub comes : (s : Scenario) (j : ℕ) → HasAtMostFaults k s → from ≤ j → j < to → IsMatched cubes s j → place s ≡ Some j

-- What stands at the top of the tree of a slice: a leaf whose place is right in all scenarios of the space, or a fork at
-- a cut that is open on both sides. `Unknown` promises nothing.
abbrev pub IsSliceTop : List (List Literal) → ℕ → Space → ℕ → ℕ → SliceTop → Type 0
IsSliceTop cubes k space from to (Leaf x) = FindsMatches cubes k space from to (λ s. x)
IsSliceTop cubes k space from to (Fork p) = IsOpenCut space p.cut.variable p.cut.most
IsSliceTop cubes k space from to Unknown = Unit {0}

-- a tree is added that finds the cubes of a slice; no more items may be added than before
pub record AddsSliceTree (cubes : List (List Literal)) (k : ℕ) (space : Space) (from to : ℕ)
    (old new : TreeGrowth) : Type 0 where
  -- the tree that is added finds them
  pub finds : AddsTree (λ n. FindsMatches cubes k space from to (value_at n)) old.items.items new.items.items
  -- no more items may be added than before
  pub fewer : new.left ≤ old.left

-- the literals that a fork on v at a cut says of its two sides
pub record AreForkSides (k v cut : ℕ) (sides : ForkSides) : Type 0 where
  -- below: the numbers up to the cut
  pub below : sides.below ≡ record { variable = v; low = 0; high = cut }
  -- above: the numbers past the cut, up to the greatest that v can have
  pub above : sides.above ≡ record { variable = v; low = cut + 1; high = top k v }

-- what the ranges of two literals on one variable have in common; its low is above its high if that is nothing
abbrev pub met_by : Literal → Literal → Literal
met_by l m = record { variable = l.variable; low = max l.low m.low; high = min l.high m.high }

-- the literals before a fork's literal was entered: without the last one, or with the last one as it was
abbrev pub left_by : Option Literal → List Literal → List Literal
left_by None ls = take (length ls - 1) ls
left_by (Some l) ls = slice_set ls (length ls - 1) l

-- l is the last of the literals, and is on v
pub record IsLastOn (ls : List Literal) (v : ℕ) (l : Literal) : Type 0 where
  -- there is a literal
  pub some : 0 < length ls
  -- l is the last one
  pub last : get_or ls (length ls - 1) l ≡ l
  -- it is on v
  pub on : l.variable ≡ v

-- the literal l is entered into the old literals; `was` is what the last one was if it was changed
pub record IsEntered (old : List Literal) (l : Literal) (new : List Literal) (was : Option Literal) : Type 0 where
  -- the new literals match if the old ones do and l holds
  pub both : (s : Scenario) → matches new s ≡ (matches old s && holds s l)
  -- taking l back leaves the old ones
  pub back : left_by was new ≡ old
  -- there is a new literal: l itself, or the last old one with what l says added
  pub some : 0 < length new
