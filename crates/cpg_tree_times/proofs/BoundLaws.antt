-- The bounds of the forks on the sides of a fork.
use Rattle.std.proofs.Common.{ℕ, ◌<◌, ◌+◌, ◌*◌, ◌/◌, ◌≡◌, max, min, List, [], ◌∷◌, ◌++◌, length, take, drop, Bool, true}
use Rattle.std.proofs.Common.{arith, refl, sym, ap, ap₂, ◌∙◌, append_assoc}
use Rattle.std.specs.Prelude.{nat_le}
use Rattle.std.specs.List.{IsLastAndRest}
use Rattle.std.proofs.lemmas.Bool.{leb-true}
use Rattle.std.proofs.lemmas.List.{append-nil, length-append}
use Rattle.std.proofs.Math.Seq.{take-append_seam, drop-append_seam}
use Rattle.cpg_tree_times.specs.declared.bounds.Span.{Span}
use Rattle.cpg_tree.specs.declared.item.TreeItem.{TreeItem}
use Rattle.cpg_tree.specs.declared.item.TreeItem.TheVariants.{Cut}
use Rattle.cpg_tree.specs.TreeNode.{TreeNode, Leaf, Fork}
use Rattle.cpg_tree_times.specs.Bounds.{AreSpansOfSides, IsBounded, bounds_in, span_in}
use Rattle.cpg_tree.specs.Flat.{flat}
use Rattle.cpg_tree_times.specs.Greater.{IsAtLeast}
use Rattle.cpg_tree.proofs.Flats.{flat-same, last_same, rest_same}
use Rattle.cpg_tree_times.proofs.Greatness.{least_under, most_over}

-- if the spans of a fork are split into the last one and the others, the others are cut into those of both sides
pub sides_are : (bounds sides : List Span) (last : Span) (forks : ℕ) → IsLastAndRest bounds last sides →
    AreSpansOfSides bounds forks (take (min forks (length sides)) sides) (drop (min forks
    (length sides)) sides)
sides_are bounds sides last forks cut front back fork are long =
    let same : sides ≡ front ++ back = rest_same sides (front ++ back) last fork (sym cut.0 ∙ are) in
    let at : min forks (length sides) ≡ length front =
    omega (arith, long, ap length same, length-append front back) in (
      ap (λ n. take n sides) at ∙ ap (take (length front)) same ∙ take-append_seam front back,
      ap (λ n. drop n sides) at ∙ ap (drop (length front)) same ∙ drop-append_seam front back,
    )

-- a tree's list has one item more than two for each fork
pub forks_in : {T : Type 0} (number : T → ℕ) (n : TreeNode T) → length (flat n) ≡ 2 * length (bounds_in number n) + 1
-- by induction on the tree: a leaf, then a fork by its two sides
forks_in number (Leaf x) = refl
forks_in number (Fork v cut below above) = omega (
  arith,
  length-append (flat below ++ flat above) (Cut v cut (length (flat below)) ∷ []),
  length-append (flat below) (flat above),
  length-append (bounds_in number below ++ bounds_in number above) (span_in number (Fork v cut below above) ∷ []),
  length-append (bounds_in number below) (bounds_in number above),
  forks_in number below,
  forks_in number above,
)

-- half of an odd number, rounded down: a list of a tree's items has one leaf more than forks
half : (items forks : ℕ) → items ≡ 2 * forks + 1 → items / 2 ≡ forks
half items forks counted = omega (arith, counted)

-- half of a list's items, rounded down, are as many as the tree's forks
pub forks_are : {T : Type 0} (number : T → ℕ) (n : TreeNode T) (items : List (TreeItem T)) → items ≡ flat n →
    length items / 2 ≡ length (bounds_in number n)
forks_are number n items are = half (length items) (length (bounds_in number n)) (ap length are ∙ forks_in number n)

-- given: a fork whose span is made of those of its two sides
module _ {T : Type 0} (number : T → ℕ) (v cut : ℕ) (x y n : TreeNode T) (items : List (TreeItem T))
    (is : items ≡ flat (Fork v cut x y)) (are : items ≡ flat n) (first second both : Span)
    (low : first ≡ span_in number x) (high : second ≡ span_in number y)
    (made : both ≡ record { least = min first.least second.least; most = max first.most second.most }) where
  -- the tree is the fork
  fork_is : Fork v cut x y ≡ n
  fork_is = flat-same (Fork v cut x y) n (sym is ∙ are)

  -- the span of a fork is that of both sides
  of_fork : both ≡ span_in number (Fork v cut x y)
  of_fork = made ∙ ap₂ (λ (p q : Span). record { least = min p.least q.least; most = max p.most q.most }) low high

  -- the span made of those of the two sides is that of the tree
  pub span_fork : both ≡ span_in number n
  span_fork = of_fork ∙ ap (span_in number) fork_is

  -- the fork's span is added behind those of its sides
  pub bounds_fork : (old lower higher new : List Span) → lower ≡ old ++ bounds_in number x →
      higher ≡ lower ++ bounds_in number y → new ≡ higher ++ (both ∷ []) →
      new ≡ old ++ bounds_in number n
  bounds_fork old lower higher new one two last =
      last
      ∙ ap (λ (xs : List Span). xs ++ (both ∷ [])) (two ∙ ap (λ (xs : List Span). xs ++ bounds_in number y) one
      ∙ append_assoc old (bounds_in number x) (bounds_in number y))
      ∙ append_assoc old (bounds_in number x ++ bounds_in number y) (both ∷ [])
      ∙ ap (λ (s : Span). old ++ (bounds_in number x ++ bounds_in number y ++ (s ∷ []))) of_fork
      ∙ ap (λ (m : TreeNode T). old ++ bounds_in number m) fork_is

-- given: a leaf, and the list of its item
module _ {T : Type 0} (number : T → ℕ) (x : T) (n : TreeNode T) (items : List (TreeItem T)) (is : items ≡ flat (Leaf x))
    (are : items ≡ flat n) where
  -- the tree is the leaf
  leaf_is : Leaf x ≡ n
  leaf_is = flat-same (Leaf x) n (sym is ∙ are)

  -- the span made of one value is that of the tree, which is a leaf
  pub span_leaf : (m : ℕ) (one : Span) → m ≡ number x → one ≡ record { least = m; most = m } → one ≡ span_in number n
  span_leaf m one at made = made ∙ ap (λ (k : ℕ). record { least = k; most = k }) at ∙ ap (span_in number) leaf_is

  -- a leaf has no forks, so no spans are added for it
  pub bounds_leaf : (old : List Span) → old ≡ old ++ bounds_in number n
  bounds_leaf old = sym (append-nil old) ∙ ap (λ (m : TreeNode T). old ++ bounds_in number m) leaf_is

-- the last span of a fork is that of the whole tree
module _ {T : Type 0} (number : T → ℕ) where
  -- the last of a tree's bounds is the span of the tree
  last_span : (n : TreeNode T) (sides : List Span) (span : Span) → bounds_in number n ≡ sides ++ (span ∷ []) →
      span ≡ span_in number n
  last_span (Leaf x) sides span e = absurd (omega (arith, ap length e, length-append sides (span ∷ [])))
  last_span (Fork v cut below above) sides span e = last_same sides
      (bounds_in number below ++ bounds_in number above) span (span_in number (Fork v cut below above)) (sym e)

  -- if a tree's spans end in a span, that is the span of the whole tree
  pub span_last : (items : List (TreeItem T)) (bounds : List Span) → IsBounded number items bounds →
      (span : Span) (sides : List Span) →
      bounds ≡ sides ++ (span ∷ []) →
      (n : TreeNode T) → items ≡ flat n →
      span ≡ span_in number n
  span_last items bounds is span sides last n are =
      last_span is.0 sides span (sym is.2 ∙ last) ∙ ap (span_in number) (flat-same is.0 n (sym is.1 ∙ are))

  -- a fork has a span of its own
  pub fork_bounded : (items : List (TreeItem T)) (bounds : List Span) → IsBounded number items bounds →
      (v cut : ℕ) (x y : TreeNode T) → items ≡ flat (Fork v cut x y) →
      0 < length bounds
  -- the spans are those of the fork's sides and then its own, which is one
  fork_bounded items bounds is v cut x y are =
      let same : bounds ≡ bounds_in number (Fork v cut x y) =
      is.2 ∙ ap (bounds_in number) (flat-same is.0 (Fork v cut x y) (sym is.1 ∙ are)) in
      omega (
        arith,
        ap length same,
        length-append (bounds_in number x ++ bounds_in number y) (span_in number (Fork v cut x y) ∷ []),
      )

-- given: the spans of two trees, one behind the other in one list
module _ {T U : Type 0} (number : T → ℕ) (other_number : U → ℕ) (n : TreeNode T) (m : TreeNode U)
    (none first both : List Span) (forks : ℕ) (empty : none ≡ [])
    (one : first ≡ none ++ bounds_in number n) (two : both ≡ first ++ bounds_in other_number m)
    (long : forks ≡ length first) where
  -- cut at the number of the first tree's forks, the list gives the spans of each tree
  pub first_bounds : take forks both ≡ bounds_in number n
  first_bounds =
      ap (λ k. take k both) long ∙ ap (take (length first)) two ∙ take-append_seam first (bounds_in other_number m)
      ∙ one ∙ ap (λ (xs : List Span). xs ++ bounds_in number n) empty

  -- behind the bounds of the first tree stand those of the second
  pub second_bounds : drop forks both ≡ bounds_in other_number m
  second_bounds =
      ap (λ k. drop k both) long ∙ ap (drop (length first)) two ∙ drop-append_seam first (bounds_in other_number m)

-- if the least number of the span of a is at least the greatest of that of b, a is at least b everywhere
pub at_least_by : {T U : Type 0} (number : T → ℕ) (other_number : U → ℕ) (a : TreeNode T) (b : TreeNode U)
    (own others : Span) (is : Bool) →
    own ≡ span_in number a → others ≡ span_in other_number b → is ≡ nat_le others.most own.least → is ≡ true →
    IsAtLeast number other_number a b
-- a number of b is at most b's greatest, which is at most a's least, which is at most a number of a
at_least_by number other_number a b own others is own_is others_is is_test holds = λ s t.
    omega (
      arith,
      most_over other_number b s,
      least_under number a t,
      leb-true others.most own.least (sym is_test ∙ holds),
      ap (λ (x : Span). x.least) own_is,
      ap (λ (x : Span). x.most) others_is,
    )
