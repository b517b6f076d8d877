-- A decision tree: a value, or a fork by the number of a variable.
use Rattle.std.specs.Prelude.{ℕ}

-- A leaf has a value. A fork has a variable, a cut, the side for numbers up to the cut, and the side for those above
-- it.
pub data TreeNode (T : Type 0) : Type 0 where
  Leaf : T → TreeNode T
  Fork : ℕ → ℕ → TreeNode T → TreeNode T → TreeNode T
