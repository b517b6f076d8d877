-- The places that a list of items gives are those of the tree whose items they are.
use Rattle.std.proofs.Common.{ℕ, ◌≡◌, ◌++◌, ◌∷◌, List, [], Option, None, Some, Bool, true, false, length, sym, ap, ◌∙◌}
use Rattle.std.specs.Prelude.{All, nat_le, if◌then◌else◌}
use Rattle.std.proofs.lemmas.List.Elements.{All-nil, All-cons, All-head, All-tail}
use Rattle.cpg_base.specs.Scenario.{Scenario, number_of}
use Rattle.cpg_tree.specs.TreeNode.{TreeNode, Leaf, Fork}
use Rattle.cpg_tree.specs.declared.item.TreeItem.{TreeItem}
use Rattle.cpg_tree.specs.declared.item.TreeItem.TheVariants.{Value, Cut}
use Rattle.cpg_tree.specs.Decision.{value_at}
use Rattle.cpg_tree.specs.Flat.{flat}
use Rattle.cpg_tree.specs.ReadBack.{read_back}
use Rattle.cpg_tree.proofs.Flats.{read_back-flat}
use Rattle.cpg_row_trees.specs.PlacesState.{PlacesState}
use Rattle.cpg_row_trees.specs.Places.{place_on, place_at, IsThere}

-- the place that a list of items gives a scenario is the value of the tree that they are the items of
pub place_is : (items : List (TreeItem (Option ℕ))) (n : TreeNode (Option ℕ)) (s : Scenario) → items ≡ flat n →
    place_at (record { items = items }) s ≡ value_at n s
place_is items n s are = ap (λ (xs : List (TreeItem (Option ℕ))). place_on (read_back xs []) s) are
    ∙ ap (λ (stack : List (TreeNode (Option ℕ))). place_on stack s) (read_back-flat n [])

-- the place that a caller sees is the value of the tree that the items are of
pub place_seen : (items : List (TreeItem (Option ℕ))) (n : TreeNode (Option ℕ)) (places : PlacesState) (s : Scenario) →
    items ≡ flat n →
    record { items = items } ≡ places →
    place_at places s ≡ value_at n s
place_seen items n places s are is = ap (λ (p : PlacesState). place_at p s) (sym is) ∙ place_is items n s are

-- a leaf that has a place doesn't lead to none
is_no_leaf : (x : Option ℕ) → IsThere (Value x) → x ≡ None → ⊥
is_no_leaf None h is = h
is_no_leaf (Some i) h is = cc

-- given: a fact P of elements
module _ {X : Type 0} (P : X → Type 0) where
  -- what holds of all of two lists holds of the first
  in_front : (xs ys : List X) → All P (xs ++ ys) → All P xs
  in_front [] ys all = All-nil P
  in_front (x ∷ xs) ys all =
      All-cons P x xs (All-head P x (xs ++ ys) all) (in_front xs ys (All-tail P x (xs ++ ys) all))

  -- what holds of all of two lists holds of the second
  behind : (xs ys : List X) → All P (xs ++ ys) → All P ys
  behind [] ys all = all
  behind (x ∷ xs) ys all = behind xs ys (All-tail P x (xs ++ ys) all)

-- if both sides of a fork have a place, so has the one that a scenario goes to
side_there : (b : Bool) (x y : Option ℕ) → (x ≡ None → ⊥) → (y ≡ None → ⊥) → (if b then x else y) ≡ None → ⊥
side_there true x y low high = low
side_there false x y low high = high

-- a tree without leaves without a place gives each scenario a place
pub there_in : (n : TreeNode (Option ℕ)) (s : Scenario) → All IsThere (flat n) → value_at n s ≡ None → ⊥
-- by induction on the tree: a leaf, then a fork by its two sides
there_in (Leaf x) s all = is_no_leaf x (All-head IsThere (Value x) [] all)
there_in (Fork v cut below above) s all =
    let last : List (TreeItem (Option ℕ)) = Cut v cut (length (flat below)) ∷ [] in
    let sides = in_front IsThere (flat below ++ flat above) last all in
    side_there (nat_le (number_of s v) cut) (value_at below s) (value_at above s)
    (there_in below s (in_front IsThere (flat below) (flat above) sides))
    (there_in above s (behind IsThere (flat below) (flat above) sides))
