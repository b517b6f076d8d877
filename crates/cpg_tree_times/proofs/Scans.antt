-- What one pass over the leaves of a tree's list finds: the greatest number, or whether all are at least another.

use Rattle.std.proofs.Common.{ℕ, ◌≡◌, ◌∙◌, max, min, Bool, true, false, ◌&&◌, List, [], ◌∷◌, ◌++◌, length, arith, refl}
use Rattle.std.proofs.Common.{sym, ap, append_assoc}
use Rattle.std.specs.Prelude.{nat_le}
use Rattle.std.proofs.lemmas.Bool.{leb-true}
use Rattle.std.proofs.lemmas.Bool.Decides.{nat_tests}
use Rattle.std.proofs.lemmas.List.{append-nil}
use Rattle.cpg_tree.specs.declared.item.TreeItem.{TreeItem}
use Rattle.cpg_tree.specs.declared.item.TreeItem.TheVariants.{Cut}
use Rattle.cpg_tree.specs.TreeNode.{TreeNode, Leaf, Fork}
use Rattle.cpg_tree.specs.Flat.{flat}
use Rattle.cpg_tree_times.specs.Greater.{IsAtLeast, are_from, least_leaf, most_from, greatest_leaf}
use Rattle.cpg_tree_times.proofs.Greatness.{least_under, most_over}

-- ---- the greatest number

-- taking in the greatest number of one side and then of the other is taking in the greater
most_of_sides : (a b m : ℕ) → max b (max a m) ≡ max (max a b) m
most_of_sides a b m = omega arith

-- a look at a tree's list takes its greatest leaf into the greatest number so far
most-flat : {T : Type 0} (number : T → ℕ) (n : TreeNode T) (m : ℕ) (rest : List (TreeItem T)) →
    most_from number m (flat n ++ rest) ≡ most_from number (max (greatest_leaf number n) m) rest
most-flat number (Leaf x) m rest = refl
most-flat {T} number (Fork v cut x y) m rest =
    let last : List (TreeItem T) = Cut v cut (length (flat x)) ∷ [] in
    ap (most_from number m) (append_assoc (flat x ++ flat y) last rest ∙ append_assoc (flat x) (flat y) (last ++ rest))
    ∙ most-flat number x m (flat y ++ (last ++ rest))
    ∙ most-flat number y (max (greatest_leaf number x) m) (last ++ rest)
    ∙ ap (λ (k : ℕ). most_from number k rest) (most_of_sides (greatest_leaf number x) (greatest_leaf number y) m)

-- the greatest number that a look at a list finds is that of the tree's greatest leaf
pub most_is : {T : Type 0} (number : T → ℕ) (items : List (TreeItem T)) (n : TreeNode T) → items ≡ flat n →
    most_from number 0 items ≡ greatest_leaf number n
most_is number items n are =
    ap (most_from number 0) (are ∙ sym (append-nil (flat n))) ∙ most-flat number n 0 []
    ∙ no_more (greatest_leaf number n)
  where
    -- 0 raises no number
    no_more : (m : ℕ) → max m 0 ≡ m
    no_more m = omega arith

-- ---- whether each number is at least another

-- both sides are at least a number exactly if the lesser one is
from_sides : (l a b : ℕ) (r : Bool) → (nat_le l a && (nat_le l b && r)) ≡ (nat_le l (min a b) && r)
from_sides l a b r = grind (arith, nat_tests)

-- a look at a tree's list finds whether its least leaf is at least a number, and goes on with the rest
from-flat : {T : Type 0} (number : T → ℕ) (least : ℕ) (n : TreeNode T) (rest : List (TreeItem T))
    → are_from number least (flat n ++ rest) ≡ (nat_le least (least_leaf number n) && are_from number least rest)
-- by induction on the tree: a fork's list is that of its sides and a cut, which the look passes over
from-flat number least (Leaf x) rest = refl
from-flat {T} number least (Fork v cut x y) rest =
    let last : List (TreeItem T) = Cut v cut (length (flat x)) ∷ [] in
    ap (are_from number least)
    (append_assoc (flat x ++ flat y) last rest ∙ append_assoc (flat x) (flat y) (last ++ rest))
    ∙ from-flat number least x (flat y ++ (last ++ rest))
    ∙ ap (λ (b : Bool). nat_le least (least_leaf number x) && b) (from-flat number least y (last ++ rest))
    ∙ from_sides least (least_leaf number x) (least_leaf number y) (are_from number least rest)

-- a look at a list finds whether the tree's least leaf is at least a number
pub from_is : {T : Type 0} (number : T → ℕ) (least : ℕ) (items : List (TreeItem T)) (n : TreeNode T) → items ≡ flat n →
    are_from number least items ≡ nat_le least (least_leaf number n)
from_is number least items n are =
    ap (are_from number least) (are ∙ sym (append-nil (flat n))) ∙ from-flat number least n []
    ∙ and_true (nat_le least (least_leaf number n))
  where
    -- what holds behind the list's end, `true`, changes nothing
    and_true : (b : Bool) → (b && true) ≡ b
    and_true true = refl
    and_true false = refl

-- given: the lists of two trees whose leaves are read as numbers
module _ {T U : Type 0} (number : T → ℕ) (other_number : U → ℕ) (own : List (TreeItem T)) (other : List (TreeItem U))
    (n : TreeNode T) (m : TreeNode U) (are : own ≡ flat n) (others : other ≡ flat m)
  where
    -- if each number of one list is at least the greatest of another, the first tree is at least the second
    pub at_least_is : are_from number (most_from other_number 0 other) own ≡ true → IsAtLeast number other_number n m
    at_least_is passes =
        let most : ℕ = most_from other_number 0 other in
        let under : nat_le most (least_leaf number n) ≡ true = sym (from_is number most own n are) ∙ passes in
        λ s t. omega (
          arith,
          most_is other_number other m others,
          most_over other_number m s,
          least_under number n t,
          leb-true most (least_leaf number n) under,
        )
