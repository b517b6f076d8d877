-- Trees whose value is the number of one variable, as `push_counts` and `push_value` make them.
use Rattle.std.specs.Prelude.{ℕ, ◌+◌, ◌≡◌, ◌≢◌, ◌≤◌, Bool, true, ◌&&◌, ◌||◌, nat_lt, nat_le, length, get_or}
use Rattle.cpg_base.specs.Graph.{Graph, process_count, condition_count, value_variable}
use Rattle.cpg_base.specs.Scenario.{number_of_value, Scenario, number_of}
use Rattle.cpg_base.specs.Variable.{top}
use Rattle.cpg_tree.specs.TreeNode.{TreeNode}
use Rattle.cpg_tree.specs.Space.{Space, IsWhole}
use Rattle.cpg_tree.specs.Decision.{value_at, low_at, high_at, DoForksPass, IsFit}

-- the forks narrow no variable but v: every other one has its whole range on each scenario's way
pub record ForksOnly {T : Type 0} (v : ℕ) (node : TreeNode T) : Type 0 where
  pub low : (s : Scenario) (u : ℕ) → u ≢ v → low_at node s u ≤ 0
  pub high : (k : ℕ) (s : Scenario) (u : ℕ) → u ≢ v → top k u ≤ high_at k node s u

-- in each scenario in which the count of process p is from `first` to k, the tree's value is that count
pub record AreCountsFrom (p first k : ℕ) (node : TreeNode ℕ) : Type 0 where
  pub value : (s : Scenario) → first ≤ number_of s p → number_of s p ≤ k → value_at node s ≡ number_of s p
  -- no fork narrows another variable
  pub only : ForksOnly p node

-- the space leaves to p exactly the counts from `first` to k
pub record LeavesCounts (space : Space) (p first k : ℕ) : Type 0 where
  pub long : length space.low ≡ 256
  -- the range is from `first` to k, and the faults left are just enough for k
  pub low : get_or space.low p 0 ≡ first
  pub high : get_or space.high p 0 ≡ k
  pub left : first + space.left ≡ k

-- what is known of the tree r for the counts of p from `first` to k
pub record IsCounted (p first k : ℕ) (r : TreeNode ℕ) : Type 0 where
  pub counts : AreCountsFrom p first k r
  -- the tree fits each space that leaves these counts
  pub fit : (space : Space) → LeavesCounts space p first k → IsFit space r
  -- all forks are on p: they pass each test that p passes
  pub pass : (test : ℕ → Bool) → test p ≡ true → DoForksPass test r

-- in each scenario the tree's value is the value of a condition, whose variable is v
pub record IsValueNode (v : ℕ) (node : TreeNode Bool) : Type 0 where
  pub value : (s : Scenario) → number_of s v ≤ 1 → number_of_value (value_at node s) ≡ number_of s v
  -- no fork narrows another variable
  pub only : ForksOnly v node

-- what is known of the tree r for the value of a condition, whose variable is v
pub record IsValued (v : ℕ) (r : TreeNode Bool) : Type 0 where
  pub value : IsValueNode v r
  -- r fits the space of all scenarios, for whatever number of faults
  pub fit : (k : ℕ) (space : Space) → IsWhole k space → IsFit space r
  -- all forks are on v: they pass each test that v passes
  pub pass : (test : ℕ → Bool) → test v ≡ true → DoForksPass test r

-- whether v is a variable of the graph: the count of one of its processes, or the value of one of its conditions
abbrev pub is_variable : Graph → ℕ → Bool
is_variable g v = nat_lt v (process_count g) || (nat_le 128 v && nat_lt v (value_variable (condition_count g)))
