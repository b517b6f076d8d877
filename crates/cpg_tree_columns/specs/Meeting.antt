-- The greatest number that a tree has in a scenario in which another tree, `wanted`, is true.
use Rattle.std.specs.Prelude.{ℕ, ◌≡◌, ◌≤◌, ◌<◌, ◌+◌, ◌⊎◌, Bool, true, Option, Some, None, get_or, length, sum_by}
use Rattle.cpg_base.specs.Graph.{Graph, process_count, IsVariable}
use Rattle.cpg_base.specs.Numbers.{numbers_below}
use Rattle.cpg_base.specs.Scenario.{Scenario, IsScenario}
use Rattle.cpg_base.specs.Variable.{top}
use Rattle.cpg_tree.specs.TreeNode.{TreeNode}
use Rattle.cpg_tree.specs.Decision.{value_at, DoForksPass}
use Rattle.cpg_tree_columns.specs.Greatest.{HasValueAt}
use Rattle.cpg_tree.specs.declared.space.Space.{Space}
use Rattle.cpg_tree.specs.Space.{IsInSpace, HasAtMostFaults}
use Rattle.cpg_tree.specs.Tree.{TreeState, DoPathsPass}
use Rattle.cpg_tree.specs.Variables.{is_variable}

-- ---- of trees

-- in scenario s the tree t has the number and `wanted` is true
pub record HasWhere (t : TreeState (Option ℕ)) (wanted : TreeState Bool) (number : ℕ) (s : Scenario) : Type 0 where
  -- t has the number
  pub has : HasValueAt t.paths (Some number) s
  -- `wanted` is true
  pub there : HasValueAt wanted.paths true s

-- both trees are over the scenarios of a graph of at most 128 processes
pub record AreOf (g : Graph) (t : TreeState (Option ℕ)) (wanted : TreeState Bool) : Type 0 where
  -- the graph has at most 128 processes
  pub few : process_count g ≤ 128
  -- the tree's number of faults is the graph's
  pub faults : t.faults ≡ g.faults
  -- both trees test variables of the graph alone
  pub known : DoPathsPass (is_variable g) t.paths
  pub known_too : DoPathsPass (is_variable g) wanted.paths

-- some scenario of the graph has the number in t, and `wanted` is true in it
pub record IsReachedWhere (g : Graph) (t : TreeState (Option ℕ)) (wanted : TreeState Bool) (number : ℕ) : Type 0 where
  -- the scenario, one of the graph
  pub scenario : Scenario
  pub lawful : IsScenario g scenario
  -- it has the number, and `wanted` is true
  pub has : HasWhere t wanted number scenario

-- `most` is the greatest number that t has where `wanted` is true
pub record IsMostWhere (t : TreeState (Option ℕ)) (wanted : TreeState Bool) (most : ℕ) : Type 0 where
  -- no scenario of at most as many faults has a greater one there
  pub above : (s : Scenario) (other : ℕ) → HasAtMostFaults t.faults s → HasWhere t wanted other s → other ≤ most
  -- if both trees are over a graph's scenarios, some scenario of the graph has it there
  pub reached : (g : Graph) → AreOf g t wanted → IsReachedWhere g t wanted most

-- no scenario has a number in t where `wanted` is true
abbrev pub IsNowhere : TreeState (Option ℕ) → TreeState Bool → Type 0
IsNowhere t wanted = (s : Scenario) (number : ℕ) → HasAtMostFaults t.faults s → HasWhere t wanted number s → ⊥

-- ---- of nodes

-- scenario s comes to the number in the one tree, and to true in the other
abbrev pub ComesTo : TreeNode (Option ℕ) → TreeNode Bool → ℕ → Scenario → Type 0
ComesTo node wanted number s = (value_at node s ≡ Some number) × (value_at wanted s ≡ true)

-- the number is at most the greatest one; there is a greatest one
abbrev pub IsUpTo : Option ℕ → ℕ → Type 0
IsUpTo None number = ⊥
IsUpTo (Some most) number = number ≤ most

-- A space in which some scenario of the graph lies: no range is empty, and the lows together are no more faults than
-- the graph allows.
pub record IsOpenSpaceOf (g : Graph) (space : Space) : Type 0 where
  -- there is a low and a high for each of 256 variables
  pub lows : length space.low ≡ 256
  pub highs : length space.high ≡ 256
  -- no range is empty
  pub opens : (v : ℕ) → v < 256 → get_or space.low v 0 ≤ get_or space.high v 0
  -- no range goes past the greatest number of its variable
  pub tops : (v : ℕ) → v < 256 → get_or space.high v 0 ≤ top g.faults v
  -- the faults that the lows ask for and those that are left are within the graph's number
  pub budget : sum_by (λ p. get_or space.low p 0) (numbers_below 128) + space.left ≤ g.faults
  -- only variables of the graph have a low above 0
  pub known : (v : ℕ) → (IsVariable g v → ⊥) → get_or space.low v 0 ≡ 0

-- the forks of both trees are on variables of the graph, which has at most 128 processes
pub record AreForksOf {T U : Type 0} (g : Graph) (a : TreeNode T) (b : TreeNode U) : Type 0 where
  -- the graph has at most 128 processes
  pub few : process_count g ≤ 128
  -- each fork is on a variable of the graph
  pub first : DoForksPass (is_variable g) a
  pub second : DoForksPass (is_variable g) b

-- If the space is open for a graph over which both trees are, some scenario of that graph lies in the space and has
-- the fact.
abbrev pub IsMetIn : {T U : Type 0} → Space → TreeNode T → TreeNode U → (Scenario → Type 0) → Type 0
IsMetIn space a b fact = (g : Graph) → AreForksOf g a b → IsOpenSpaceOf g space →
    (s : Scenario) × IsScenario g s × IsInSpace space s × fact s

-- some scenario of the space comes to the number where `wanted` is true; there is a number
abbrev pub IsFoundIn : Space → TreeNode (Option ℕ) → TreeNode Bool → Option ℕ → Type 0
IsFoundIn space node wanted None = ⊥
IsFoundIn space node wanted (Some number) = IsMetIn space node wanted (ComesTo node wanted number)

-- `most` is the greater of `best` and of the greatest number that scenarios of the space come to where `wanted` is
-- true; either may be missing
pub record IsMostInSpace (space : Space) (node : TreeNode (Option ℕ)) (wanted : TreeNode Bool)
    (best most : Option ℕ) : Type 0 where
  -- no scenario of the space comes to a greater number there
  pub above : (s : Scenario) (number : ℕ) → IsInSpace space s → ComesTo node wanted number s → IsUpTo most number
  -- it isn't less than `best`
  pub from : (number : ℕ) → IsUpTo best number → IsUpTo most number
  -- it is `best`, or some scenario of the space comes to it
  pub found : (most ≡ best) ⊎ IsFoundIn space node wanted most
