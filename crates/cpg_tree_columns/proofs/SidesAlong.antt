-- Reading a tree's items from last to first: if that comes to an end, the forks stand along the order, and the demands
-- are found.
use Rattle.std.proofs.Common.{ℕ, ◌≤◌, ◌≡◌, ◌≢◌, ◌==◌, List, [], ◌∷◌, ◌++◌, Option, Some, None, length, reverse, refl}
use Rattle.std.proofs.Common.{sym, ap, ap₂, ◌∙◌, append_assoc, unwrap_or, get_or, if◌then◌else◌, inl, inr, eq-eqb}
use Rattle.std.proofs.Common.{ne_eqb}
use Rattle.std.specs.Option.{option_map_or}
use Rattle.std.specs.Prelude.{nat_lt}
use Rattle.std.proofs.lemmas.Bool.{cases_eq, cases_lt, cond-true, cond-false, lt-ltb, le-ltb}
use Rattle.std.proofs.lemmas.List.{append-nil, reverse-append}
use Rattle.std.proofs.lemmas.Option.{none-some}
use Rattle.cpg_tree.specs.TreeNode.{TreeNode, Leaf, Fork}
use Rattle.cpg_tree.specs.declared.item.TreeItem.{TreeItem}
use Rattle.cpg_tree.specs.declared.item.TreeItem.TheVariants.{Value, Cut}
use Rattle.cpg_tree.specs.Flat.{flat}
use Rattle.cpg_tree_columns.specs.declared.demanding.ForkSide.{ForkSide}
use Rattle.cpg_tree_columns.specs.declared.demanding.BothSides.{BothSides}
use Rattle.cpg_tree_columns.specs.Along.{AreForksAlong}
use Rattle.cpg_tree_columns.specs.Demanded.{both_sides, demands_at, demands_by, first_side, side_above, side_below}
use Rattle.cpg_tree_columns.specs.Demanded.{sides_of}

-- The demands that a walk over these items finds, after those already `found`. `side` is what the way to the first
-- item says, `later` what those to the sides put off say. None if a fork doesn't stand along the order, or if items
-- run out; the walk ends at a value when no side is put off.
abbrev pub walked : List ℕ → List (TreeItem (Option ℕ)) → ForkSide → List ForkSide → List ℕ → Option (List ℕ)
walked places [] side later found = None
walked places (Value x ∷ items) side [] found = Some (found ++ demands_at x side.asked)
walked places (Value x ∷ items) side (next ∷ later) found =
    walked places items next later (found ++ demands_at x side.asked)
walked places (Cut v cut below ∷ items) side later found =
    option_map_or (λ (sides : BothSides). walked places items sides.above (sides.below ∷ later) found)
    (sides_of side (get_or places v 0) cut) None

-- what the walk finds once a tree is over: it goes on with the next side put off, or ends if there is none
abbrev after : List ℕ → List (TreeItem (Option ℕ)) → List ForkSide → List ℕ → Option (List ℕ)
after places items [] found = Some found
after places items (next ∷ later) found = walked places items next later found

-- after a value the walk goes on as after any tree
after_value : (places : List ℕ) (x : Option ℕ) (items : List (TreeItem (Option ℕ))) (side : ForkSide) (later : List ForkSide)
    (found : List ℕ) →
    walked places (Value x ∷ items) side later found ≡ after places items later (found ++ demands_at x side.asked)
after_value places x items side [] found = refl
after_value places x items side (next ∷ later) found = refl

-- what is known on both sides of a fork at whose variable some places are left, if no more than at the last fork
abbrev bound : ForkSide → ℕ → ℕ → Option BothSides
bound side left cut = if nat_lt side.left left then None else Some (both_sides side left cut)

-- if what a fork's sides lead to comes to an end, the fork stands along the order
sides_known : {A : Type 0} (side : ForkSide) (left cut : ℕ) (f : BothSides → Option A) (x : A) →
    option_map_or f (sides_of side left cut) None ≡ Some x →
    (left ≤ side.left) × (left ≢ 0) × (f (both_sides side left cut) ≡ Some x)
-- if no places are left, or more than at the last fork, the sides are none, and nothing would come of them
sides_known {A} side left cut f x is_x = elim (cases_eq left 0) [
  | inl none ↦ absurd (none-some x (sym (ap (λ (o : Option BothSides). option_map_or f o None)
      (cond-true (left == 0) None (bound side left cut) (eq-eqb left 0 none))) ∙ is_x))
  | inr some ↦
      let inner : option_map_or f (bound side left cut) None ≡ Some x =
      sym (ap (λ (o : Option BothSides). option_map_or f o None)
      (cond-false (left == 0) None (bound side left cut) (ne_eqb left 0 some))) ∙ is_x in
      elim (cases_lt side.left left) [
        | inl past ↦ absurd (none-some x (sym (ap (λ (o : Option BothSides). option_map_or f o None)
            (cond-true (nat_lt side.left left) None (Some (both_sides side left cut)) (lt-ltb side.left left past)))
            ∙ inner))
        | inr within ↦ (
          within,
          some,
          sym (ap (λ (o : Option BothSides). option_map_or f o None)
              (cond-false (nat_lt side.left left) None (Some (both_sides side left cut)) (le-ltb side.left left within)))
              ∙ inner,
        )
      ]
]

-- from last to first a fork's items are its cut, those of the side above and those of the side below
turned : (v cut : ℕ) (x y : TreeNode (Option ℕ)) (rest : List (TreeItem (Option ℕ))) →
    reverse (flat (Fork v cut x y)) ++ rest
    ≡ Cut v cut (length (flat x)) ∷ (reverse (flat y) ++ (reverse (flat x) ++ rest))
turned v cut x y rest =
    let last : TreeItem (Option ℕ) = Cut v cut (length (flat x)) in
    ap (λ items. items ++ rest)
    (reverse-append (flat x ++ flat y) (last ∷ []) ∙ ap (λ items. last ∷ items) (reverse-append (flat x) (flat y)))
    ∙ ap (λ items. last ∷ items) (append_assoc (reverse (flat y)) (reverse (flat x)) rest)

-- if a walk over a tree's items comes to an end, its forks stand along the order, and the walk goes on behind the tree
-- with its demands found
walked_tree : (places : List ℕ) (n : TreeNode (Option ℕ)) (rest : List (TreeItem (Option ℕ))) (side : ForkSide)
    (later : List ForkSide) (found all : List ℕ) →
    walked places (reverse (flat n) ++ rest) side later found ≡ Some all →
    AreForksAlong places side.left n × (after places rest later (found ++ demands_by places side n) ≡ Some all)
-- by induction on the tree: a fork's cut is read first, then the side above it is walked over, and then the side
-- below, which was put off
walked_tree places (Leaf x) rest side later found all ends =
    (tt, sym (after_value places x rest side later found) ∙ ends)
walked_tree places (Fork v cut x y) rest side later found all ends =
    let left = get_or places v 0 in
    let items = reverse (flat y) ++ (reverse (flat x) ++ rest) in
    let known = sides_known side left cut
    (λ (sides : BothSides). walked places items sides.above (sides.below ∷ later) found) all
    (sym (ap (λ xs. walked places xs side later found) (turned v cut x y rest)) ∙ ends) in
    let of_above = walked_tree places y (reverse (flat x) ++ rest) (side_above side left cut)
    (side_below side left ∷ later) found all known.2 in
    let of_below = walked_tree places x rest (side_below side left) later
    (found ++ demands_by places (side_above side left cut) y) all of_above.1 in (
      (known.0, known.1, of_below.0, of_above.0),
      sym (ap (after places rest later) (append_assoc found (demands_by places (side_above side left cut) y)
          (demands_by places (side_below side left) x))) ∙ of_below.1,
    )

-- If the last item left is a value and no side is put off, the walk over all items ends with its demand. So the forks
-- of the tree stand along the order, and its demands are found.
pub walked_all : (places : List ℕ) (items left others : List (TreeItem (Option ℕ))) (time : Option ℕ) (side : ForkSide)
    (later : List ForkSide) (old found all : List ℕ) →
    walked places (reverse left) side (reverse later) found ≡ walked places (reverse items) first_side [] old →
    left ≡ others ++ Value time ∷ [] → later ≡ [] → all ≡ found ++ demands_at time side.asked →
    (n : TreeNode (Option ℕ)) → items ≡ flat n →
    AreForksAlong places 256 n × (all ≡ old ++ demands_by places first_side n)
-- the walk from here takes the last item and ends; the walk over all items ends as it does, and `walked_tree` says
-- what that is for a tree
walked_all places items left others time side later old found all same is none added n are =
    let end : walked places (reverse left) side (reverse later) found ≡ Some all =
    ap₂ (λ xs sides. walked places xs side sides found) (ap reverse is ∙ reverse-append others (Value time ∷ []))
    (ap reverse none) ∙ ap Some (sym added) in
    let known = walked_tree places n [] first_side [] old all
    (ap (λ xs. walked places xs first_side [] old) (append-nil (reverse (flat n)) ∙ ap reverse (sym are))
    ∙ sym same ∙ end) in
    (known.0, ap (λ (o : Option (List ℕ)). unwrap_or o []) (sym known.1))
