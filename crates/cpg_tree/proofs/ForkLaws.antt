-- What may take the place of a fork of two trees, and what of the trees that a list ends in.
use Rattle.std.proofs.Common.{ℕ, ◌+◌, ◌-◌, ◌<◌, ◌≤◌, ◌≡◌, List, [], ◌∷◌, ◌++◌, length, take, drop, arith, refl, sym, ap}
use Rattle.std.proofs.Common.{◌∙◌, subst, append_assoc}
use Rattle.std.proofs.lemmas.List.{length-append}
use Rattle.cpg_base.specs.Scenario.{Scenario, number_of}
use Rattle.cpg_tree.specs.TreeNode.{TreeNode, Leaf, Fork}
use Rattle.cpg_tree.specs.declared.item.TreeItem.{TreeItem}
use Rattle.cpg_tree.specs.declared.item.TreeItem.TheVariants.{Value, Cut}
use Rattle.cpg_tree.specs.Flat.{flat}
use Rattle.cpg_tree.specs.Added.{AddsTree, IsForked, IsSplit, RepeatsBelow}
use Rattle.cpg_tree.proofs.Forks as forks
use Rattle.cpg_tree.proofs.Fits.{fits_uncut, fits_joined}
use Rattle.cpg_tree.proofs.Flats.{flat-same, last_same, rest_same, take_front, drop_front, cut_is_no_value}

-- ---- of trees

-- given: a variable v, a cut, and the trees below it and above it
module _ {T : Type 0} (v cut : ℕ) (below above : TreeNode T) where
  -- if both sides are the same tree, that tree is a fork of them
  pub forked_same : IsForked v cut below below below
  -- each scenario finds on either side what it finds in the tree, so only the clause on spaces needs a lemma
  forked_same = record {
    made = record {
      value_below = λ s is_below. refl;
      value_above = λ s is_above. refl;
      low_below = λ s u is_below. omega arith;
      low_above = λ s u is_above other. omega arith;
      low_here = λ s is_below. omega arith;
      high_below = λ k s u is_below other. omega arith;
      high_here = λ k s is_below. omega arith;
      high_above = λ k s u is_above. omega arith;
    };
    fit = λ space lower upper fit other. fits_uncut below space v cut upper fit;
    pass = λ test is on_below on_above. on_below;
  }

  -- the plain fork of two trees is a fork of them
  pub forked_plain : v < 256 → IsForked v cut below above (Fork v cut below above)
  -- each clause is what a scenario finds at a fork
  forked_plain small = record {
    made = record {
      value_below = λ s is_below. forks.value_below v cut below above s is_below;
      value_above = λ s is_above. forks.value_above v cut below above s is_above;
      low_below = λ s u is_below. omega (arith, forks.low_below v cut below above s is_below u);
      low_above = λ s u is_above other. omega (arith, forks.low_above v cut below above s is_above u other);
      low_here = λ s is_below. omega (arith, forks.low_here v cut below above s is_below);
      high_below = λ k s u is_below other. omega (arith, forks.high_below v cut below above s is_below k u other);
      high_here = λ k s is_below. omega (arith, forks.high_here v cut below above s is_below k);
      high_above = λ k s u is_above. omega (arith, forks.high_above v cut below above s is_above k u);
    };
    fit = λ space lower upper fit other. (small, lower, upper, fit, other);
    pass = λ test is on_below on_above. (is, on_below, on_above);
  }

  -- given: a second cut, `far`, which is greater
  module _ (far : ℕ) (less : cut < far) where
    -- a number up to the cut is up to the farther one
    farther : (s : Scenario) → number_of s v ≤ cut → number_of s v ≤ far
    farther s is_below = omega (arith, is_below, less)

    -- if the side above is itself a fork on the variable, farther up, with the same side below, it is a fork of both
    -- sides
    pub forked_met : IsForked v cut below (Fork v far below above) (Fork v far below above)
    -- A scenario up to the cut is also up to the farther one, and finds the side below there. One above the cut finds
    -- the side above, which is the tree itself.
    forked_met = record {
      made = record {
        value_below = λ s is_below. forks.value_below v far below above s (farther s is_below);
        value_above = λ s is_above. refl;
        low_below = λ s u is_below. omega (arith, forks.low_below v far below above s (farther s is_below) u);
        low_above = λ s u is_above other. omega arith;
        low_here = λ s is_below. omega arith;
        high_below = λ k s u is_below other. omega (
          arith,
          forks.high_below v far below above s (farther s is_below) k u other,
        );
        high_here = λ k s is_below. omega (arith, less, forks.high_here v far below above s (farther s is_below) k);
        high_above = λ k s u is_above. omega arith;
      };
      fit = λ space lower upper fit other.
          fits_joined below below above (Fork v far below above) space v cut v far refl refl less lower fit other;
      pass = λ test is on_below on_above. on_above;
    }

-- a tree whose list begins with that of another and ends in a cut behind it is a fork with that other as its side
-- below
pub met_is : {T : Type 0} (a b : TreeNode T) (rest : List (TreeItem T)) (v far : ℕ) →
    flat a ≡ flat b ++ rest ++ (Cut v far (length (flat b)) ∷ []) →
    (y : TreeNode T) × (a ≡ Fork v far b y)
-- a leaf's list doesn't end in a cut; the last items of both lists are equal, so the fork is on v at `far`, and the
-- items before them begin with those of b
met_is (Leaf x) b rest v far e = absurd (cut_is_no_value (sym (last_same [] (flat b ++ rest) (Value x) _ e)))
met_is {T} (Fork u cut x y) b rest v far e =
    let same : Cut u cut (length (flat x)) ≡ Cut v far (length (flat b)) =
    last_same (flat x ++ flat y) (flat b ++ rest) _ _ e in
    let parts : flat x ++ flat y ≡ flat b ++ rest = rest_same (flat x ++ flat y) (flat b ++ rest) _ _ e in
    let long : length (flat x) ≡ length (flat b) = cc in
    let one : u ≡ v = cc in
    let two : cut ≡ far = cc in
    let side : x ≡ b = flat-same x b (sym (take_front (flat x) (flat y) (length (flat x)) refl)
    ∙ ap (take (length (flat x))) parts ∙ take_front (flat b) rest (length (flat x)) long) in
    (y, ap (λ w. Fork w cut x y) one ∙ ap (λ w. Fork v w x y) two ∙ ap (λ w. Fork v far w y) side)

-- ---- of lists

-- given: a list that ends in the lists of two trees, split at `start` and `middle`
module _ {T : Type 0} (start middle : ℕ) (old front : List (TreeItem T)) (below above : TreeNode T)
    (split : IsSplit start middle old front below above) where
  -- the tree above stands behind the front and the tree below
  behind : middle ≡ length (front ++ flat below)
  behind = omega (arith, split.second, length-append front (flat below))

  -- up to the middle stand the front and the tree below
  up_to_middle : take middle old ≡ front ++ flat below
  up_to_middle = ap (take middle) split.is ∙ take_front (front ++ flat below) (flat above) middle behind

  -- behind it stands the tree above
  above_is : drop middle old ≡ flat above
  above_is = ap (drop middle) split.is ∙ drop_front (front ++ flat below) (flat above) middle behind

  -- between them stands the tree below
  below_is : drop start (take middle old) ≡ flat below
  below_is = ap (drop start) up_to_middle ∙ drop_front front (flat below) start split.first

  -- up to the start stands the front
  up_to_start : take start old ≡ front
  up_to_start = ap (take start) (split.is ∙ append_assoc front (flat below) (flat above))
      ∙ take_front front (flat below ++ flat above) start split.first

  -- the tree below is as long as what lies between
  between : middle - start ≡ length (flat below)
  between = omega (arith, split.first, split.second)

  -- from the start on it ends in the middle
  again : start + (middle - start) ≡ middle
  again = omega (arith, split.first, split.second)

  -- given: a variable v, a cut, and the list that results
  module _ (v cut : ℕ) (new : List (TreeItem T)) where
    -- both sides are equal: one of them is the fork
    pub forks_same : drop start (take middle old) ≡ drop middle old → new ≡ take middle old →
        AddsTree (IsForked v cut below above) front new
    forks_same same cutoff =
        let one : below ≡ above = flat-same below above (sym below_is ∙ same ∙ above_is) in (
          below,
          cutoff ∙ up_to_middle,
          subst (λ (n : TreeNode T). IsForked v cut below n below) one (forked_same v cut below above),
        )

    -- the side below is repeated on the side above: the side above is the fork
    pub forks_repeated : RepeatsBelow (drop start (take middle old)) (drop middle old) v cut →
        new ≡ take start old ++ drop (start + (middle - start)) old
        → AddsTree (IsForked v cut below above) front new
    -- the tree above is a fork at `far` with the tree below as its own side below (`met_is`), so it is a fork of both
    forks_repeated (far, rest, less, ends) taken =
        let whole : flat above ≡ flat below ++ rest ++ (Cut v far (length (flat below)) ∷ []) =
        sym above_is ∙ ends ∙ ap (λ (xs : List (TreeItem T)). xs ++ rest ++ (Cut v far (length xs) ∷ [])) below_is in
        let is = met_is above below rest v far whole in (
          above,
          taken ∙ ap (λ (xs : List (TreeItem T)). xs ++ drop (start + (middle - start)) old) up_to_start
              ∙ ap (λ n. front ++ drop n old) again ∙ ap (λ (xs : List (TreeItem T)). front ++ xs) above_is,
          subst (λ (n : TreeNode T). IsForked v cut below n n) (sym is.1) (forked_met v cut below is.0 far less),
        )

    -- otherwise the fork itself is added
    pub forks_plain : v < 256 → new ≡ old ++ (Cut v cut (middle - start) ∷ []) →
        AddsTree (IsForked v cut below above) front new
    forks_plain small added = (
      Fork v cut below above,
      added ∙ ap (λ (xs : List (TreeItem T)). xs ++ (Cut v cut (middle - start) ∷ []))
          (split.is ∙ append_assoc front (flat below) (flat above))
          ∙ append_assoc front (flat below ++ flat above) (Cut v cut (middle - start) ∷ [])
          ∙ ap (λ n. front ++ (flat below ++ flat above ++ (Cut v cut n ∷ []))) between,
      forked_plain v cut below above small,
    )
