-- The greatest number of a tree's leaves is the greatest number of its items.
use Rattle.std.proofs.Common.{ℕ, ◌≡◌, List, [], ◌∷◌, ◌++◌, Option, Some, None, length, arith, refl, ap, ap₂, sym, ◌∙◌}
use Rattle.cpg_tree.specs.TreeNode.{TreeNode, Leaf, Fork}
use Rattle.cpg_tree.specs.declared.item.TreeItem.{TreeItem}
use Rattle.cpg_tree.specs.declared.item.TreeItem.TheVariants.{Cut}
use Rattle.cpg_tree.specs.Flat.{flat}
use Rattle.cpg_tree_columns.specs.Counted.{leaf_number}
use Rattle.cpg_tree_columns.specs.Greatest.{greater, most_of}

-- the greatest number of a list of items; forks and leaves without a number count for nothing
abbrev pub most_in : List (TreeItem (Option ℕ)) → Option ℕ
most_in [] = None
most_in (item ∷ items) = greater (leaf_number item) (most_in items)

-- the greater of a number and none is that number
pub greater_none : (a : Option ℕ) → greater a None ≡ a
greater_none None = refl
greater_none (Some x) = refl

-- it does not matter which two of three numbers are compared first
pub greater_three : (a b c : Option ℕ) → greater (greater a b) c ≡ greater a (greater b c)
greater_three None b c = refl
greater_three (Some x) None c = refl
greater_three (Some x) (Some y) None = refl
greater_three (Some x) (Some y) (Some z) = ap Some (omega arith)

-- the greatest number of two lists together is the greater of their greatest ones
most_in-append : (xs ys : List (TreeItem (Option ℕ))) → most_in (xs ++ ys) ≡ greater (most_in xs) (most_in ys)
-- by induction on the list
most_in-append [] ys = refl
most_in-append (x ∷ xs) ys =
    ap (greater (leaf_number x)) (most_in-append xs ys) ∙ sym (greater_three (leaf_number x) (most_in xs) (most_in ys))

-- the greatest number of a tree's items is that of its leaves
pub most_in_flat : (n : TreeNode (Option ℕ)) → most_in (flat n) ≡ most_of n
-- by induction on the tree: the items of a fork are those of both sides, and a cut, which has no number
most_in_flat (Leaf x) = greater_none x
most_in_flat (Fork v cut x y) =
    let last : List (TreeItem (Option ℕ)) = Cut v cut (length (flat x)) ∷ [] in
    most_in-append (flat x ++ flat y) last ∙ greater_none (most_in (flat x ++ flat y))
    ∙ most_in-append (flat x) (flat y) ∙ ap₂ greater (most_in_flat x) (most_in_flat y)
