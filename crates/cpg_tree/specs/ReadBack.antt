-- The tree that a list gives back: read from the front, with what was read so far on a stack.
use Rattle.std.specs.Prelude.{ℕ, ◌≡◌, List, [], ◌∷◌}
use Rattle.cpg_cube.specs.declared.literal.Literal.{Literal}
use Rattle.cpg_tree.specs.TreeNode.{TreeNode, Leaf, Fork}
use Rattle.cpg_tree.specs.declared.item.TreeItem.{TreeItem}
use Rattle.cpg_tree.specs.declared.item.TreeItem.TheVariants.{Value, Cut}
use Rattle.cpg_tree.specs.Decision.{IsGood}
use Rattle.cpg_tree.specs.Flat.{flat}
use Rattle.cpg_tree.specs.Paths.{paths_of}

-- The stack after an item. A value is put on it; a fork takes its sides off, that above first, and is put on in their
-- place. A fork without two sides on the stack leaves the stack as it is; the list of a tree has no such fork.
abbrev pub stacked : {T : Type 0} → TreeItem T → List (TreeNode T) → List (TreeNode T)
stacked (Value x) stack = Leaf x ∷ stack
stacked (Cut v cut n) [] = []
stacked (Cut v cut n) (above ∷ []) = above ∷ []
stacked (Cut v cut n) (above ∷ below ∷ stack) = Fork v cut below above ∷ stack

-- the stack after all items of a list
abbrev pub read_back : {T : Type 0} → List (TreeItem T) → List (TreeNode T) → List (TreeNode T)
read_back [] stack = stack
read_back (x ∷ xs) stack = read_back xs (stacked x stack)

-- the paths of the topmost tree of the stack, and none of an empty stack
abbrev pub paths_on : {T : Type 0} → ℕ → List (TreeNode T) → List (List Literal × T)
paths_on k [] = []
paths_on k (n ∷ stack) = paths_of k n

-- the paths of the tree that the items are the list of
abbrev pub paths_in : {T : Type 0} → ℕ → List (TreeItem T) → List (List Literal × T)
paths_in k items = paths_on k (read_back items [])

-- the items are the list of a tree in which some scenario of at most k faults goes to each side of each fork
abbrev pub IsGoodList : {T : Type 0} → ℕ → List (TreeItem T) → Type 0
IsGoodList {T} k items = (n : TreeNode T) × (items ≡ flat n) × IsGood k n
