-- A tree as a list: the items of the side below, those of the side above, and then the fork.
use Rattle.std.specs.Prelude.{◌≡◌, ◌<◌, List, [], ◌∷◌, ◌++◌, length}
use Rattle.cpg_tree.specs.TreeNode.{TreeNode, Leaf, Fork}
use Rattle.cpg_tree.specs.declared.item.TreeItem.{TreeItem}
use Rattle.cpg_tree.specs.declared.item.TreeItem.TheVariants.{Value, Cut}
use Rattle.cpg_tree.specs.declared.top.Top.{Top}
use Rattle.cpg_tree.specs.declared.top.Top.TheVariants.{Value as TopValue, Cut as TopCut}

-- the list of a tree; the item of a fork also has the length of its side below, so that the list can be split again
abbrev pub flat : {T : Type 0} → TreeNode T → List (TreeItem T)
flat (Leaf x) = Value x ∷ []
flat (Fork v cut below above) = flat below ++ flat above ++ (Cut v cut (length (flat below)) ∷ [])

-- the items are the list of some tree
abbrev pub IsFlat : {T : Type 0} → List (TreeItem T) → Type 0
IsFlat {T} items = (n : TreeNode T) × (items ≡ flat n)

-- the items are the list of a tree with this top: the value of its one leaf, or its fork with the lists of both sides
abbrev pub ShowsTop : {T : Type 0} → List (TreeItem T) → Top T → Type 0
ShowsTop items (TopValue x) = items ≡ flat (Leaf x)
ShowsTop {T} items (TopCut v cut below above) =
    (x : TreeNode T) × (y : TreeNode T) × (below.now ≡ flat x) × (above.now ≡ flat y) × (items ≡ flat (Fork v cut x y))

-- if the top is a fork, the lists of its sides are shorter than the whole; so a walk down the tree ends
abbrev pub IsLess : {T : Type 0} → List (TreeItem T) → Top T → Type 0
IsLess items (TopValue x) = Unit {0}
IsLess items (TopCut v cut below above) = (length below.now < length items) × (length above.now < length items)

-- if the top is a fork, its variable is one of 256
abbrev pub HasVariable : {T : Type 0} → Top T → Type 0
HasVariable (TopValue x) = Unit {0}
HasVariable (TopCut v cut below above) = v < 256
