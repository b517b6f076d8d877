-- The least and the greatest number below each fork of a tree whose leaves are read as numbers.
use Rattle.std.specs.Prelude.{ℕ, ◌≡◌, max, min, List, [], ◌∷◌, ◌++◌, length}
use Rattle.cpg_tree_times.specs.declared.bounds.Span.{Span}
use Rattle.cpg_tree.specs.declared.item.TreeItem.{TreeItem}
use Rattle.cpg_tree.specs.TreeNode.{TreeNode, Leaf, Fork}
use Rattle.cpg_tree.specs.Flat.{flat}
use Rattle.cpg_tree_times.specs.Greater.{least_leaf, greatest_leaf}

-- the least and the greatest number that `number` reads at the leaves of a tree
abbrev pub span_in : {T : Type 0} → (T → ℕ) → TreeNode T → Span
span_in number node = record { least = least_leaf number node; most = greatest_leaf number node }

-- the spans of all forks, in the order of the tree's list: each behind those of its sides
abbrev pub bounds_in : {T : Type 0} → (T → ℕ) → TreeNode T → List Span
bounds_in number (Leaf x) = []
bounds_in number (Fork v cut below above) = bounds_in number below ++ bounds_in number above ++ (record {
  least = min (least_leaf number below) (least_leaf number above);
  most = max (greatest_leaf number below) (greatest_leaf number above);
} ∷ [])

-- the items are those of some tree, and `bounds` are the spans of its forks
abbrev pub IsBounded : {T : Type 0} → (T → ℕ) → List (TreeItem T) → List Span → Type 0
IsBounded {T} number items bounds = (n : TreeNode T) × (items ≡ flat n) × (bounds ≡ bounds_in number n)

-- The spans of a fork are split into those of its sides: the first `forks` are those of the side below, then come those
-- of the side above, and last the fork's own, which belongs to neither.
abbrev pub AreSpansOfSides : List Span → ℕ → List Span → List Span → Type 0
AreSpansOfSides bounds forks below above = (front back : List Span) (fork : Span) →
    bounds ≡ front ++ back ++ (fork ∷ []) → forks ≡ length front → (below ≡ front) × (above ≡ back)
