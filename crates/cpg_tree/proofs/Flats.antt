-- What a list says about the tree that it is of.
use Rattle.std.proofs.Common.{ℕ, ◌<◌, ◌≡◌, List, [], ◌∷◌, ◌++◌, length, take, drop, min, arith, refl, sym, ap, ◌∙◌}
use Rattle.std.proofs.lemmas.List.{length-append}
use Rattle.std.proofs.Math.Seq.{take-append_seam, drop-append_seam}
use Rattle.cpg_tree.specs.TreeNode.{TreeNode, Leaf, Fork}
use Rattle.cpg_tree.specs.declared.item.TreeItem.{TreeItem}
use Rattle.cpg_tree.specs.declared.item.TreeItem.TheVariants.{Value, Cut}
use Rattle.cpg_tree.specs.Flat.{flat}
use Rattle.cpg_tree.specs.ReadBack.{stacked, read_back, paths_on, paths_in}
use Rattle.cpg_tree.specs.Paths.{paths_of}

-- ---- a list gives its tree back

-- reading two lists back is reading the second onto what the first gave
read_back-append : {T : Type 0} (xs ys : List (TreeItem T)) (stack : List (TreeNode T)) →
    read_back (xs ++ ys) stack ≡ read_back ys (read_back xs stack)
read_back-append [] ys stack = refl
read_back-append (x ∷ xs) ys stack = read_back-append xs ys (stacked x stack)

-- reading a tree's list back puts the tree on the stack
pub read_back-flat : {T : Type 0} (n : TreeNode T) (stack : List (TreeNode T)) → read_back (flat n) stack ≡ n ∷ stack
read_back-flat (Leaf x) stack = refl
read_back-flat {T} (Fork v cut below above) stack =
    let last : List (TreeItem T) = Cut v cut (length (flat below)) ∷ [] in
    read_back-append (flat below ++ flat above) last stack
    ∙ ap (read_back last) (read_back-append (flat below) (flat above) stack
    ∙ ap (read_back (flat above)) (read_back-flat below stack) ∙ read_back-flat above (below ∷ stack))

-- the first of a list, or a default
first_or : {T : Type 0} → T → List T → T
first_or x [] = x
first_or x (y ∷ ys) = y

-- two trees with the same list are the same
pub flat-same : {T : Type 0} (a b : TreeNode T) → flat a ≡ flat b → a ≡ b
unfolding first_or
flat-same a b e = ap (first_or a) (sym (read_back-flat a []) ∙ ap (λ xs. read_back xs []) e ∙ read_back-flat b [])

-- the paths that a list gives back are its tree's
pub paths_in-flat : {T : Type 0} (k : ℕ) (items : List (TreeItem T)) (n : TreeNode T) → items ≡ flat n →
    paths_in k items ≡ paths_of k n
paths_in-flat k items n are = ap (paths_in k) are ∙ ap (paths_on k) (read_back-flat n [])

-- each tree has items
pub flat-long : {T : Type 0} (n : TreeNode T) → 0 < length (flat n)
flat-long (Leaf x) = omega arith
flat-long (Fork v cut below above) =
    omega (arith, length-append (flat below ++ flat above) (Cut v cut (length (flat below)) ∷ []))

-- if the list of a tree is added to no items, the new list is that of the tree
pub all_added : {T : Type 0} (old new : List (TreeItem T)) (n : TreeNode T) → old ≡ [] → new ≡ old ++ flat n →
    new ≡ flat n
all_added {T} old new n none added = added ∙ ap (λ (xs : List (TreeItem T)). xs ++ flat n) none

-- ---- the last item shows what the tree is

-- given: a kind of elements
module _ {A : Type 0} where
  -- the last of a list, or a default
  last_or : A → List A → A
  last_or x [] = x
  last_or x (y ∷ ys) = last_or y ys

  -- the last of a list with one element more is that one
  last-append : (d x : A) (xs : List A) → last_or d (xs ++ (x ∷ [])) ≡ x
  unfolding last_or
  last-append d x [] = refl
  last-append d x (y ∷ ys) = last-append y x ys

  -- if two lists with one item more each are equal, their last items are
  pub last_same : (xs ys : List A) (x y : A) → xs ++ (x ∷ []) ≡ ys ++ (y ∷ []) → x ≡ y
  last_same xs ys x y same = sym (last-append x x xs) ∙ ap (last_or x) same ∙ last-append x y ys

  -- the items before the last one are the same too
  pub rest_same : (xs ys : List A) (x y : A) → xs ++ (x ∷ []) ≡ ys ++ (y ∷ []) → xs ≡ ys
  rest_same xs ys x y same =
      let long : length xs ≡ length ys =
      omega (arith, ap length same, length-append xs (x ∷ []), length-append ys (y ∷ [])) in
      sym (take-append_seam xs (x ∷ [])) ∙ ap (take (length xs)) same ∙ ap (λ n. take n (ys ++ (y ∷ []))) long
      ∙ take-append_seam ys (y ∷ [])

-- the items before the last one, and the last one itself
abbrev pub sides_of : {T : Type 0} → TreeNode T → List (TreeItem T)
sides_of (Leaf x) = []
sides_of (Fork v cut below above) = flat below ++ flat above

-- the first item of a tree's list
abbrev pub item_of : {T : Type 0} → TreeNode T → TreeItem T
item_of (Leaf x) = Value x
item_of (Fork v cut below above) = Cut v cut (length (flat below))

-- a tree's list is the items of its sides, and then its own item
pub flat-last : {T : Type 0} (n : TreeNode T) → flat n ≡ sides_of n ++ (item_of n ∷ [])
flat-last (Leaf x) = refl
flat-last (Fork v cut below above) = refl

-- given: the parts of a list that is cut at the first part's length
module _ {A : Type 0} (front back : List A) (n : ℕ) (long : n ≡ length front) where
  -- up to the first part's length it is the first part
  pub take_front : take n (front ++ back) ≡ front
  take_front = ap (λ m. take m (front ++ back)) long ∙ take-append_seam front back

  -- behind the front stands the back
  pub drop_front : drop n (front ++ back) ≡ back
  drop_front = ap (λ m. drop m (front ++ back)) long ∙ drop-append_seam front back

-- ---- the top

-- a value is no cut, nor a cut a value
pub value_is_no_cut : {T : Type 0} {x : T} {v cut n : ℕ} → Value x ≡ Cut v cut n → ⊥
value_is_no_cut equal = cc

-- a fork isn't a leaf
pub cut_is_no_value : {T : Type 0} {x : T} {v cut n : ℕ} → Cut v cut n ≡ Value x → ⊥
cut_is_no_value equal = cc

-- if the last item of a tree's list is a value, no item stands before it
pub value_alone : {T : Type 0} (n : TreeNode T) (items sides : List (TreeItem T)) (x : T) → items ≡ flat n →
    items ≡ sides ++ (Value x ∷ []) →
    length sides ≡ 0
value_alone (Leaf y) items sides x is last = ap length (rest_same sides [] (Value x) (Value y) (sym last ∙ is))
value_alone (Fork v cut below above) items sides x is last = absurd (value_is_no_cut
    (last_same sides (flat below ++ flat above) (Value x) (Cut v cut (length (flat below))) (sym last ∙ is)))

-- if the last item of a tree's list is a cut, items of both its sides stand before it
pub cut_behind : {T : Type 0} (n : TreeNode T) (items sides : List (TreeItem T)) (v cut m : ℕ) → items ≡ flat n →
    items ≡ sides ++ (Cut v cut m ∷ []) →
    0 < length sides
cut_behind (Leaf x) items sides v cut m is last =
    absurd (cut_is_no_value (last_same sides [] (Cut v cut m) (Value x) (sym last ∙ is)))
cut_behind (Fork u far below above) items sides v cut m is last =
    omega (
      arith,
      ap length (rest_same sides (flat below ++ flat above) _ _ (sym last ∙ is)),
      length-append (flat below) (flat above),
      flat-long below,
    )

-- a list whose last item is a cut is that of a fork: the items before it, cut at its number, are those of the sides
pub shows_cut : {T : Type 0} (n : TreeNode T) (items sides : List (TreeItem T)) (v cut m : ℕ) → items ≡ flat n →
    items ≡ sides ++ (Cut v cut m ∷ []) →
    (x : TreeNode T) × (y : TreeNode T) × (take (min m (length sides)) sides ≡ flat x) ×
    (drop (min m (length sides)) sides ≡ flat y) × (items ≡ flat (Fork v cut x y))
-- A leaf's last item is a value, so the tree is a fork. The last item is the fork's own, and the others are those of
-- its sides, of which the first is as long as the item says.
shows_cut {T} (Leaf z) items sides v cut m is last =
    absurd (cut_is_no_value (last_same sides [] (Cut v cut m) (Value z) (sym last ∙ is)))
shows_cut {T} (Fork u far below above) items sides v cut m is last =
    let both : sides ++ (Cut v cut m ∷ []) ≡ flat below ++ flat above ++ (Cut u far (length (flat below)) ∷ []) =
    sym last ∙ is in
    let same : Cut v cut m ≡ Cut u far (length (flat below)) = last_same sides (flat below ++ flat above) _ _ both in
    let rest : sides ≡ flat below ++ flat above = rest_same sides (flat below ++ flat above) _ _ both in
    let number : m ≡ length (flat below) = cc in
    let short : min m (length sides) ≡ length (flat below) =
    omega (arith, number, ap length rest, length-append (flat below) (flat above)) in (
      below,
      above,
      ap (take (min m (length sides))) rest ∙ take_front (flat below) (flat above) _ short,
      ap (drop (min m (length sides))) rest ∙ drop_front (flat below) (flat above) _ short,
      is ∙ ap (λ i. flat below ++ flat above ++ (i ∷ [])) (sym same)
          ∙ ap (λ k. flat below ++ flat above ++ (Cut v cut k ∷ [])) number,
    )
