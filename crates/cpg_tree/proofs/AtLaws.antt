-- What a list says about a scenario's value, and about the number of leaves.
use Rattle.std.proofs.Common.{ℕ, ◌+◌, ◌*◌, ◌-◌, ◌/◌, ◌<◌, ◌≤◌, ◌≡◌, List, [], ◌∷◌, ◌++◌, length, arith, refl, sym, ap}
use Rattle.std.proofs.Common.{◌∙◌}
use Rattle.std.proofs.lemmas.List.{length-append}
use Rattle.cpg_base.specs.Scenario.{Scenario, number_of}
use Rattle.cpg_cube.specs.declared.literal.Literal.{Literal}
use Rattle.cpg_cube.specs.Narrow.{narrowed_by}
use Rattle.cpg_tree.specs.TreeNode.{TreeNode, Leaf, Fork}
use Rattle.cpg_tree.specs.declared.item.TreeItem.{TreeItem}
use Rattle.cpg_tree.specs.declared.item.TreeItem.TheVariants.{Value, Cut}
use Rattle.cpg_tree.specs.Decision.{value_at}
use Rattle.cpg_tree.specs.Flat.{flat}
use Rattle.cpg_tree.specs.Paths.{paths_from, up_to, above}
use Rattle.cpg_tree.proofs.Forks.{value_below, value_above}
use Rattle.cpg_tree.proofs.Flats.{flat-same}

-- given: the list of a tree, and a scenario
module _ {T : Type 0} (items : List (TreeItem T)) (n : TreeNode T) (are : items ≡ flat n) (s : Scenario) where
  -- if the list is of a leaf, the leaf's value is that of the scenario
  pub at_leaf : (x : T) → items ≡ flat (Leaf x) → x ≡ value_at n s
  at_leaf x is = ap (λ (m : TreeNode T). value_at m s) (flat-same (Leaf x) n (sym is ∙ are))

  -- given: the items are the list of a fork
  module _ (v cut : ℕ) (x y : TreeNode T) (is : items ≡ flat (Fork v cut x y)) (z : T) where
    -- the scenario's value on the side it goes to, below or above, is its value in the whole tree
    pub at_below : number_of s v ≤ cut → z ≡ value_at x s → z ≡ value_at n s
    at_below is_below is_value = is_value ∙ sym (value_below v cut x y s is_below)
        ∙ ap (λ (m : TreeNode T). value_at m s) (flat-same (Fork v cut x y) n (sym is ∙ are))

    -- a scenario above the cut has the value of the side above
    pub at_above : cut < number_of s v → z ≡ value_at y s → z ≡ value_at n s
    at_above is_above is_value = is_value ∙ sym (value_above v cut x y s is_above)
        ∙ ap (λ (m : TreeNode T). value_at m s) (flat-same (Fork v cut x y) n (sym is ∙ are))

-- a list has an item for each leaf, and one for each fork: one fewer
pub length-flat : {T : Type 0} (n : TreeNode T) (k : ℕ) (cube : List Literal) →
    length (flat n) + 1 ≡ 2 * length (paths_from k cube n)
-- by induction on the tree: a leaf is one item and one path; a fork has the items of both sides and one more, and the
-- paths of both
length-flat (Leaf x) k cube = refl
length-flat {T} (Fork v cut x y) k cube =
    let last : List (TreeItem T) = Cut v cut (length (flat x)) ∷ [] in
    omega (
      arith,
      length-append (flat x ++ flat y) last,
      length-append (flat x) (flat y),
      length-append (paths_from k (narrowed_by (up_to v cut) cube) x)
          (paths_from k (narrowed_by (above k v cut) cube) y),
      length-flat x k (narrowed_by (up_to v cut) cube),
      length-flat y k (narrowed_by (above k v cut) cube),
    )

-- half of an odd number, rounded up: a list of a tree's items has one leaf more than forks
half : (a b : ℕ) → a + 1 ≡ 2 * b → a - a / 2 ≡ b
half a b is_double = omega arith

-- half of a list's items, rounded up, are as many as the tree's paths
pub leaves_are : {T : Type 0} (items : List (TreeItem T)) (n : TreeNode T) (k : ℕ) (cube : List Literal) →
    items ≡ flat n →
    length items - length items / 2 ≡ length (paths_from k cube n)
leaves_are items n k cube are =
    half (length items) (length (paths_from k cube n)) (ap (λ m. m + 1) (ap length are) ∙ length-flat n k cube)
