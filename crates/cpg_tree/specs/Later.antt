-- Times of trees, put off by a delay or to a least time.
use Rattle.std.specs.Prelude.{ℕ, ◌≡◌, ◌+◌, ◌-◌, ◌^◌, max, min, Option, Some, unwrap_or}
use Rattle.cpg_tree.specs.TreeNode.{TreeNode, Leaf, Fork}
use Rattle.cpg_tree.specs.declared.item.TreeItem.{TreeItem}
use Rattle.cpg_tree.specs.declared.item.TreeItem.TheVariants.{Value, Cut}

-- a time (0 if there is none) plus a delay, or the greatest number of 64 bits if the sum is above it
abbrev pub time_later : ℕ → Option ℕ → ℕ
time_later delay time = min (unwrap_or time 0 + delay) (2 ^ 64 - 1)

-- each leaf has a time of at least `least`: the later of the two is that time itself
abbrev pub AreAtLeast : ℕ → TreeNode (Option ℕ) → Type 0
AreAtLeast least (Leaf x) = x ≡ Some (max (time_later 0 x) least)
AreAtLeast least (Fork v cut below above) = AreAtLeast least below × AreAtLeast least above

-- an item is a fork, or a leaf with a time of at least `least`: the later of the two is that time itself
abbrev pub IsItemFrom : ℕ → TreeItem (Option ℕ) → Type 0
IsItemFrom least (Value x) = x ≡ Some (max (time_later 0 x) least)
IsItemFrom least (Cut v cut n) = Unit {0}
