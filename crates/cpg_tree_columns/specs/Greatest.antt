-- The greatest number of a tree, and the least scenario that has it.
use Rattle.std.specs.Prelude.{ℕ, ◌≡◌, ◌≤◌, ◌==◌, max, if◌then◌else◌, Option, Some, None, List, Contains, All}
use Rattle.std.specs.Prelude.{IsPermutation}
use Rattle.cpg_base.specs.Graph.{Graph, process_count}
use Rattle.cpg_base.specs.Scenario.{Scenario, IsScenario, IsLeast}
use Rattle.cpg_base.specs.Numbers.{numbers_below}
use Rattle.cpg_cube.specs.declared.column.Column.{Column}
use Rattle.cpg_cube.specs.Fit.{IsKnown}
use Rattle.cpg_cube.specs.Keys.{AreByLows}
use Rattle.cpg_tree_columns.specs.Columns.{columns_of_paths}
use Rattle.cpg_tree.specs.TreeNode.{TreeNode, Leaf, Fork}
use Rattle.cpg_tree.specs.Tree.{Path, TreeState, IsOnPath}

-- scenario s is on a path with this value; `p.1` is the value of a path
abbrev pub HasValueAt : {T : Type 0} → List (Path T) → T → Scenario → Type 0
HasValueAt {T} paths value s = (p : Path T) × IsOnPath paths s p × (p.1 ≡ value)

-- `number` is the greatest number of the paths, and s the least scenario along the order that has it
pub record IsGreatestOf (g : Graph) (order : List ℕ) (paths : List (Path (Option ℕ))) (number : ℕ)
    (s : Scenario) : Type 0 where
  -- no path has a greater number
  pub most : (p : Path (Option ℕ)) (other : ℕ) → Contains paths p → p.1 ≡ Some other → other ≤ number
  -- s has this number, and no earlier scenario has it
  pub least : IsLeast g order (HasValueAt paths (Some number)) s

-- scenario s is on a path with some number
pub record HasNumberAt (paths : List (Path (Option ℕ))) (s : Scenario) : Type 0 where
  -- the number of its path
  pub number : ℕ
  pub has : HasValueAt paths (Some number) s

-- Scenario s is the least one with the number along each order of the processes along which the columns stand by their
-- least scenarios.
abbrev pub IsLeastWhereSorted : Graph → List (Path (Option ℕ)) → ℕ → Scenario → Type 0
IsLeastWhereSorted g paths number s = (order : List ℕ) → IsPermutation (numbers_below (process_count g)) order →
    AreByLows (λ (c : Column). c.cube) g order (columns_of_paths paths) →
    IsLeast g order (HasValueAt paths (Some number)) s

-- some scenario of the graph is on a path with the number
pub record IsNumberReached (g : Graph) (paths : List (Path (Option ℕ))) (number : ℕ) : Type 0 where
  -- the scenario, one of the graph, with the number on its path
  pub scenario : Scenario
  pub lawful : IsScenario g scenario
  pub has : HasValueAt paths (Some number) scenario

-- `most` is the greatest number of the tree's paths
pub record IsGreatestNumber (t : TreeState (Option ℕ)) (most : ℕ) : Type 0 where
  -- no path has a greater one
  pub above : (p : Path (Option ℕ)) (other : ℕ) → Contains t.paths p → p.1 ≡ Some other → other ≤ most
  -- some path has it
  pub there : (p : Path (Option ℕ)) × Contains t.paths p × (p.1 ≡ Some most)
  -- if the paths are on variables of a graph with the tree's number of faults, some scenario of that graph has it
  pub reached : (g : Graph) → process_count g ≤ 128 → t.faults ≡ g.faults → All (λ p. IsKnown g p.0) t.paths →
      IsNumberReached g t.paths most

-- ---- on a tree, without its list of paths

-- the greater of two numbers; the other one if one is missing, and none if both are
abbrev pub greater : Option ℕ → Option ℕ → Option ℕ
greater None b = b
greater (Some a) None = Some a
greater (Some a) (Some b) = Some (max a b)

-- the greatest number of the leaves, if one has a number
abbrev pub most_of : TreeNode (Option ℕ) → Option ℕ
most_of (Leaf x) = x
most_of (Fork v cut below upper) = greater (most_of below) (most_of upper)

-- the number if it is the wanted one, and none otherwise
abbrev pub if_wanted : ℕ → Option ℕ → Option ℕ
if_wanted wanted None = None
if_wanted wanted (Some number) = if number == wanted then Some number else None
