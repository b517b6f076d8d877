-- Trees whose leaves are read as numbers.
use Rattle.std.specs.Prelude.{ℕ, Option, map}
use Rattle.cpg_tree.specs.TreeNode.{TreeNode, Leaf, Fork}
use Rattle.cpg_tree.specs.Later.{time_later}
use Rattle.cpg_tree.specs.Tree.{Path, TreeState}

-- the tree with the same forks, in which each value is replaced by the number that is read from it
abbrev pub read_by : {T : Type 0} → (T → ℕ) → TreeNode T → TreeNode ℕ
read_by number (Leaf x) = Leaf (number x)
read_by number (Fork v cut below above) = Fork v cut (read_by number below) (read_by number above)

-- a path with its time (0 if it has none) put off by the delay
abbrev pub later_path : ℕ → Path (Option ℕ) → Path ℕ
later_path delay path = (path.0, time_later delay path.1)

-- a tree with the time of each path (0 if it has none) put off by the delay
abbrev pub later_by : ℕ → TreeState (Option ℕ) → TreeState ℕ
later_by delay t = record { faults = t.faults; paths = map (later_path delay) t.paths }
