-- Trees whose columns, as they are found, stand by their least scenarios along an order.
use Rattle.std.specs.Prelude.{ℕ, ◌≢◌, ◌≤◌, List, get_or}
use Rattle.cpg_tree.specs.TreeNode.{TreeNode, Leaf, Fork}

-- On each way down, the variables of the forks stand along the order: `places` has, for each variable, how many places
-- of the order are left at it, 0 for none of the graph's, and that never rises. `left` is how many are left at the
-- fork before. A fork's own number is neither 0 nor more than `left`, and bounds those of its sides.
abbrev pub AreForksAlong : {T : Type 0} → List ℕ → ℕ → TreeNode T → Type 0
AreForksAlong places left (Leaf x) = Unit {0}
AreForksAlong places left (Fork v cut below above) = (get_or places v 0 ≤ left) × (get_or places v 0 ≢ 0) ×
    AreForksAlong places (get_or places v 0) below × AreForksAlong places (get_or places v 0) above
