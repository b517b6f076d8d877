-- Trees of a graph.
use Rattle.std.specs.Prelude.{ℕ, ◌≡◌, []}
use Rattle.cpg_base.specs.Graph.{Graph}
use Rattle.cpg_tree.specs.Tree.{TreeState, HasOnePathEach, DoPathsPass}
use Rattle.cpg_tree.specs.Variables.{is_variable}

-- a tree of a graph: for its number of faults, with one path for each scenario, and with tests of its variables alone
pub record IsTree {T : Type 0} (g : Graph) (t : TreeState T) : Type 0 where
  pub faults : t.faults ≡ g.faults
  -- each scenario takes one of the paths
  pub each : HasOnePathEach g.faults t.paths
  -- each test is of a variable of the graph
  pub known : DoPathsPass (is_variable g) t.paths

-- a tree without paths
abbrev pub no_tree : {T : Type 0} → ℕ → TreeState T
no_tree k = record { faults = k; paths = [] }
