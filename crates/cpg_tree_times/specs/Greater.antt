-- The least and the greatest number of a tree whose leaves are read as numbers.
use Rattle.std.specs.Prelude.{ℕ, ◌≤◌, max, min, nat_le, Bool, true, ◌&&◌, List, [], ◌∷◌}
use Rattle.cpg_base.specs.Scenario.{Scenario}
use Rattle.cpg_tree.specs.TreeNode.{TreeNode, Leaf, Fork}
use Rattle.cpg_tree.specs.declared.item.TreeItem.{TreeItem}
use Rattle.cpg_tree.specs.declared.item.TreeItem.TheVariants.{Value, Cut}
use Rattle.cpg_tree.specs.Decision.{value_at}

-- the least of the numbers that `number` reads at the leaves
abbrev pub least_leaf : {T : Type 0} → (T → ℕ) → TreeNode T → ℕ
least_leaf number (Leaf x) = number x
least_leaf number (Fork v cut below above) = min (least_leaf number below) (least_leaf number above)

-- the greatest of the numbers that `number` reads at the leaves
abbrev pub greatest_leaf : {T : Type 0} → (T → ℕ) → TreeNode T → ℕ
greatest_leaf number (Leaf x) = number x
greatest_leaf number (Fork v cut below above) = max (greatest_leaf number below) (greatest_leaf number above)

-- each number of the tree a is at least each number of b, also those of different scenarios
abbrev pub IsAtLeast : {T U : Type 0} → (T → ℕ) → (U → ℕ) → TreeNode T → TreeNode U → Type 0
IsAtLeast number other_number a b = (s t : Scenario) → other_number (value_at b s) ≤ number (value_at a t)

-- the greatest of `most` and of the numbers of a list's leaves; its forks count for nothing
abbrev pub most_from : {T : Type 0} → (T → ℕ) → ℕ → List (TreeItem T) → ℕ
most_from number most [] = most
most_from number most (Value x ∷ xs) = most_from number (max (number x) most) xs
most_from number most (Cut v cut n ∷ xs) = most_from number most xs

-- whether the number of each leaf of a list is at least `least`
abbrev pub are_from : {T : Type 0} → (T → ℕ) → ℕ → List (TreeItem T) → Bool
are_from number least [] = true
are_from number least (Value x ∷ xs) = nat_le least (number x) && are_from number least xs
are_from number least (Cut v cut n ∷ xs) = are_from number least xs
