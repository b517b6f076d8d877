-- Cubes that a list read off a tree: the first literals of a cube say which scenarios are in the space of a place of the
-- tree.
use Rattle.std.specs.Prelude.{ℕ, ◌≡◌, ◌≤◌, ◌<◌, true, List, get_or, length, take}
use Rattle.cpg_base.specs.Scenario.{Scenario, number_of}
use Rattle.cpg_cube.specs.Cube.{holds, matches}
use Rattle.cpg_cube.specs.declared.literal.Literal.{Literal}
use Rattle.cpg_row_trees.specs.declared.listed.ListedStep.{ListedStep}
use Rattle.cpg_row_trees.specs.declared.listed.ListedStep.TheVariants.{Known, Parts, Unknown as Nothing}
use Rattle.cpg_row_trees.specs.declared.listed.ListedTop.{ListedTop}
use Rattle.cpg_row_trees.specs.declared.listed.ListedTop.TheVariants.{Own, Fork, Unknown}
use Rattle.cpg_tree.specs.declared.space.Space.{Space}
use Rattle.cpg_tree.specs.Space.{IsInSpace, HasAtMostFaults}
use Rattle.cpg_row_trees.specs.Places.{cube_at}
use Rattle.cpg_row_trees.specs.PlaceHints.{IsOpenCut}
use Rattle.cpg_row_trees.specs.Slices.{IsInRanges, IsInside, IsOwn}

-- a scenario of at most k faults is in the space if its numbers are in range, whatever faults are left
abbrev pub AreRangesAll : ℕ → Space → Type 0
AreRangesAll k space = (s : Scenario) → HasAtMostFaults k s → IsInRanges space s → IsInSpace space s

-- the scenarios of at most k faults in the space are those that match the literals and whose number of v is in range
pub record IsOwnOn (k : ℕ) (space : Space) (literals : List Literal) (v : ℕ) : Type 0 where
  -- where a scenario is in the space, the literals hold
  pub hold : (s : Scenario) → HasAtMostFaults k s → IsInSpace space s → matches literals s ≡ true
  -- where they hold and its number of v is in range, it is in the space
  pub come : (s : Scenario) → HasAtMostFaults k s → matches literals s ≡ true → get_or space.low v 0 ≤ number_of s v →
      number_of s v ≤ get_or space.high v 0 →
      IsInSpace space s

-- What a literal is in a space: `Known` if it holds in the whole space and has no number outside, `Parts` if a cut of its
-- variable leaves the space open on both sides. `Nothing`, which is `Unknown` in the code, promises nothing.
abbrev pub IsListedStep : Space → Literal → ListedStep → Type 0
IsListedStep space l Known = ((s : Scenario) → IsInSpace space s → holds s l ≡ true) × IsInside space l
IsListedStep space l (Parts c) = IsOpenCut space c.variable c.most × (c.variable ≡ l.variable)
IsListedStep space l Nothing = Unit {0}

-- What stands at the top of the tree of a space, by the first cube's literals. `Own`: the cube has just the scenarios of the
-- space. `Fork`: the cut is open on both sides, and the literals before it with the range of its variable say which
-- scenarios are in the space. `Unknown` promises nothing.
abbrev pub IsListedTop : ℕ → Space → List Literal → ListedTop → Type 0
IsListedTop k space literals Own = IsOwn k space literals
IsListedTop k space literals (Fork p) =
    IsOpenCut space p.cut.variable p.cut.most × IsOwnOn k space (take p.depth literals) p.cut.variable
IsListedTop k space literals Unknown = Unit {0}

-- there is a cube at `place`, and its first `depth` literals are those of the cube at `other`
pub record IsNextCube (cubes : List (List Literal)) (other place depth : ℕ) : Type 0 where
  -- the place is one of the list
  pub there : place < length cubes
  -- both cubes begin with the same literals
  pub same : take depth (cube_at cubes place) ≡ take depth (cube_at cubes other)
