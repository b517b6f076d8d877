-- Trees whose values are times of at least a number.
use Rattle.std.proofs.Common.{ℕ, ◌≡◌, max, List, [], ◌∷◌, ◌++◌, length, Option, Some, All, subst}
use Rattle.std.proofs.lemmas.List.Elements.{All-append, All-cons, All-drop, All-head, All-nil, All-take}
use Rattle.std.proofs.Math.Seq.{take-append_seam, drop-append_seam}
use Rattle.cpg_cube.specs.declared.literal.Literal.{Literal}
use Rattle.cpg_cube.specs.Narrow.{narrowed_by}
use Rattle.cpg_tree.specs.TreeNode.{TreeNode, Leaf, Fork}
use Rattle.cpg_tree.specs.declared.item.TreeItem.TheVariants.{Value, Cut}
use Rattle.cpg_tree.specs.Flat.{flat}
use Rattle.cpg_tree.specs.Later.{AreAtLeast, IsItemFrom, time_later}
use Rattle.cpg_tree.specs.Paths.{up_to, above, paths_from}
use Rattle.cpg_tree.specs.Tree.{Path}

-- a fact of all elements of two lists together is one of all elements of each
module _ {A : Type 0} (P : A → Type 0) (front back : List A) (all : All P (front ++ back)) where
  -- what holds of the whole list holds of its front
  all_front : All P front
  all_front = subst (All P) (take-append_seam front back) (All-take P (length front) (front ++ back) all)

  -- what holds of the whole list holds of its back
  all_back : All P back
  all_back = subst (All P) (drop-append_seam front back) (All-drop P (length front) (front ++ back) all)

-- given: a least time
module _ (least : ℕ) where
  -- the path has a time, and it is no earlier than `least`
  abbrev pub IsFrom : Path (Option ℕ) → Type 0
  IsFrom p = p.1 ≡ Some (max (time_later 0 p.1) least)

  -- if each leaf has a time that is at least `least`, each path has
  pub at_least_paths : (k : ℕ) (node : TreeNode (Option ℕ)) (cube : List Literal) → AreAtLeast least node →
      All IsFrom (paths_from k cube node)
  -- by induction on the tree: a leaf, then a fork by its two sides
  at_least_paths k (Leaf x) cube at_least = All-cons IsFrom (cube, x) [] at_least (All-nil IsFrom)
  at_least_paths k (Fork v cut below upper) cube at_least =
      All-append IsFrom (paths_from k (narrowed_by (up_to v cut) cube) below)
      (paths_from k (narrowed_by (above k v cut) cube) upper)
      (at_least_paths k below (narrowed_by (up_to v cut) cube) at_least.0)
      (at_least_paths k upper (narrowed_by (above k v cut) cube) at_least.1)

  -- if each item of a tree's list is a fork or has a time that is at least `least`, each leaf has such a time
  pub at_least_listed : (n : TreeNode (Option ℕ)) → All (IsItemFrom least) (flat n) → AreAtLeast least n
  -- by induction on the tree: a leaf, then a fork by its two sides
  at_least_listed (Leaf x) at_least = All-head (IsItemFrom least) (Value x) [] at_least
  at_least_listed (Fork v cut x y) at_least =
      let sides = all_front (IsItemFrom least) (flat x ++ flat y) (Cut v cut (length (flat x)) ∷ []) at_least in (
        at_least_listed x (all_front (IsItemFrom least) (flat x) (flat y) sides),
        at_least_listed y (all_back (IsItemFrom least) (flat x) (flat y) sides),
      )
