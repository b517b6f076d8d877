-- What is added of two trees for the scenarios of two spaces.
use Rattle.std.proofs.Common.{ℕ, ◌<◌, ◌≤◌, ◌≡◌, max, List, length, arith, sym, ap, ◌∙◌, subst}
use Rattle.cpg_base.specs.Scenario.{Scenario, number_of}
use Rattle.cpg_tree.specs.Added.{AddsTree, ForksEnd, IsFilled, IsJoined, IsMapped, IsPartInSpace}
use Rattle.cpg_tree_times.specs.AddedInBoth.{IsBoundedPartList, IsJoinedIn}
use Rattle.cpg_tree_times.specs.Asked.{AreBothOpen, IsInner, IsInBothSpaces, SpacePair}
use Rattle.cpg_tree_times.specs.Bounds.{IsBounded, bounds_in}
use Rattle.cpg_tree.specs.Decision.{value_at, low_at, high_at, IsFit}
use Rattle.cpg_tree.specs.Flat.{flat}
use Rattle.cpg_tree_times.specs.Greater.{IsAtLeast}
use Rattle.cpg_tree.specs.Results.{IsJoinIn}
use Rattle.cpg_tree.specs.Space.{IsInSpace, above_cut, below_cut}
use Rattle.cpg_tree.specs.declared.space.Space.{Space}
use Rattle.cpg_tree.specs.TreeNode.{TreeNode, Leaf, Fork}
use Rattle.cpg_tree_times.specs.declared.bounds.Span.{Span}
use Rattle.cpg_tree.specs.declared.item.TreeItem.{TreeItem}
use Rattle.cpg_tree.proofs.Flats.{flat-same}
use Rattle.cpg_tree_times.proofs.BothSpaces.{both_whole, made_all_above, made_all_below, made_in_both}
use Rattle.cpg_tree.proofs.Forks.{made_narrower, one_above_of}
use Rattle.cpg_tree.proofs.Forks.{one_below_of, passes_parts, two_fork_of}
use Rattle.cpg_tree_times.proofs.Greatness.{first_greater, first_leaf, second_greater}
use Rattle.cpg_tree.proofs.JoinLaws.{split_of}

-- ---- parts with bounds

-- given: a fork, and the list of its items
module _ {T : Type 0} (v cut : ℕ) (x y n : TreeNode T) (items : List (TreeItem T)) (is : items ≡ flat (Fork v cut x y))
    (are : items ≡ flat n) where
  -- the tree is the fork
  fork_is : n ≡ Fork v cut x y
  fork_is = flat-same n (Fork v cut x y) (sym are ∙ is)

  -- given: a space, the spans of the fork and of its side, and the part of the side that the space comes to
  module _ (space : Space) (bounds side spans : List Span) (part : List (TreeItem T)) where
    -- if all scenarios of the space go above, the part of the side above, with its spans, is the part of the fork
    pub bounded_above : ((s : Scenario) → IsInSpace space s → cut < number_of s v) →
        ((number : T → ℕ) → bounds ≡ bounds_in number (Fork v cut x y) → side ≡ bounds_in number y) →
        IsBoundedPartList space y side part spans → IsBoundedPartList space n bounds part spans
    -- `of_side`: the tree of the part, that the part is its list, what the space finds in it, and its spans, all of
    -- which carries over
    bounded_above only cuts of_side = (
      of_side.0,
      of_side.1,
      record {
        same = one_above_of (λ s x z. z ≡ x) (IsInSpace space) v cut x y n fork_is of_side.0 of_side.2.same only;
        pass = λ test pass. of_side.2.pass test (passes_parts test v cut x y n fork_is pass).2;
      },
      λ number e. of_side.3 number (cuts number (e ∙ ap (bounds_in number) fork_is)),
    )

    -- if all scenarios of the space go below, the part of the side below, with its spans, is the part of the fork
    pub bounded_below : ((s : Scenario) → IsInSpace space s → number_of s v ≤ cut) →
        ((number : T → ℕ) → bounds ≡ bounds_in number (Fork v cut x y) → side ≡ bounds_in number x) →
        IsBoundedPartList space x side part spans → IsBoundedPartList space n bounds part spans
    -- `of_side`: the tree of the part, that the part is its list, what the space finds in it, and its spans, all of
    -- which carries over
    bounded_below only cuts of_side = (
      of_side.0,
      of_side.1,
      record {
        same = one_below_of (λ s x z. z ≡ x) (IsInSpace space) v cut x y n fork_is of_side.0 of_side.2.same only;
        pass = λ test pass. of_side.2.pass test (passes_parts test v cut x y n fork_is pass).1;
      },
      λ number e. of_side.3 number (cuts number (e ∙ ap (bounds_in number) fork_is)),
    )

-- a side has the spans of its forks if the whole does
pub side_bounded : {T : Type 0} (number : T → ℕ) (n side : TreeNode T) (items part : List (TreeItem T))
    (bounds spans : List Span) → IsBounded number items bounds → items ≡ flat n →
    part ≡ flat side →
    (bounds ≡ bounds_in number n → spans ≡ bounds_in number side) → IsBounded number part spans
side_bounded number n side items part bounds spans is are part_is cuts =
    (side, part_is, cuts (is.2 ∙ ap (bounds_in number) (flat-same is.0 n (sym is.1 ∙ are))))

-- the part of a tree that a space comes to has the spans of its forks, too
pub part_bounded : {T : Type 0} (number : T → ℕ) (space : Space) (items part : List (TreeItem T))
    (bounds spans : List Span) →
    IsBounded number items bounds →
    ((n : TreeNode T) → items ≡ flat n → IsBoundedPartList space n bounds part spans) → IsBounded number part spans
part_bounded number space items part bounds spans is parts = let its_part = parts is.0 is.1 in
    (its_part.0, its_part.1, its_part.3 number is.2)

-- ---- one of two trees, with the part of the other that the space walked comes to

-- given: two trees, and the part of the second that the space walked comes to
module _ {T U V : Type 0} (number : T → ℕ) (other_number : U → ℕ) (makes : ℕ → V → Type 0) (spaces : SpacePair)
    (n : TreeNode T) (m part : TreeNode U) (is : IsPartInSpace spaces.walked m part)
    (old new : List (TreeItem V)) where
  -- what is made of the greater number of two leaves
  abbrev answers : T → U → V → Type 0
  answers x y z = makes (max (number x) (other_number y)) z

  -- if the first tree is at least the part everywhere, its own values are added
  pub own_added : IsAtLeast number other_number n part →
      AddsTree (IsFilled (λ (x : ℕ) (y : T) (z : V). makes (max x (number y)) z) spaces.asked 0 n) old new
      → AddsTree (IsJoinedIn answers spaces n m) old new
  -- `added`: the tree that was added, how its list stands in the new one, and what is known of it, which carries over
  own_added least added = (
    added.0,
    added.1,
    record {
      made = both_whole answers spaces n m part added.0 is.same (made_in_both answers spaces n part added.0
          (first_greater number other_number makes spaces.asked n part added.0 least added.2.made));
      fit = added.2.fit;
      pass = λ test own other. added.2.pass test own;
    },
  )

  -- if the part is at least the first tree everywhere, the part's values are added
  pub other_added : IsAtLeast other_number number part n →
      AddsTree (IsFilled (λ (x : ℕ) (y : U) (z : V). makes (max x (other_number y)) z) spaces.asked 0 part) old new →
      AddsTree (IsJoinedIn answers spaces n m) old new
  -- `added`: the tree that was added, how its list stands in the new one, and what is known of it, which carries over
  other_added least added = (
    added.0,
    added.1,
    record {
      made = both_whole answers spaces n m part added.0 is.same (made_in_both answers spaces n part added.0
          (second_greater number other_number makes spaces.asked n part added.0 least added.2.made));
      fit = added.2.fit;
      pass = λ test own other. added.2.pass test (is.pass test other);
    },
  )

  -- if the first tree is one value, the greater of that value and the part's is added
  pub leaf_added : (x : T) (at : ℕ) → n ≡ Leaf x → at ≡ number x →
      AddsTree (IsFilled (λ (x : ℕ) (y : U) (z : V). makes (max x (other_number y)) z) spaces.asked at part) old new →
      AddsTree (IsJoinedIn answers spaces n m) old new
  -- `added`: the tree that was added, how its list stands in the new one, and what is known of it, which carries over
  leaf_added x at leaf value added = (
    added.0,
    added.1,
    record {
      made = both_whole answers spaces n m part added.0 is.same (made_in_both answers spaces n part added.0
          (first_leaf number other_number makes spaces.asked n part added.0 x at leaf value added.2.made));
      fit = added.2.fit;
      pass = λ test own other. added.2.pass test (is.pass test other);
    },
  )

-- ---- a fork and such a part

-- given: a fork, and the part of another tree that the space walked comes to
module _ {T U V : Type 0} (answers : T → U → V → Type 0) (spaces : SpacePair) (v cut : ℕ) (x y n : TreeNode T)
    (items : List (TreeItem T)) (is : items ≡ flat (Fork v cut x y)) (are : items ≡ flat n)
    (m part : TreeNode U) (part_is : IsPartInSpace spaces.walked m part) (old new : List (TreeItem V)) where
  -- the tree is the fork
  whole : n ≡ Fork v cut x y
  whole = fork_is v cut x y n items is are

  -- if all scenarios of both spaces go below, the answers added for the side below are those of the fork
  pub added_below : (inner : SpacePair) → IsInner spaces (λ s. number_of s v ≤ cut) inner →
      AddsTree (IsJoinedIn answers inner x part) old new →
      AddsTree (IsJoinedIn answers spaces n m) old new
  -- `added`: the tree that was added, how its list stands in the new one, and what is known of it, which carries over
  added_below inner way added = (
    added.0,
    added.1,
    record {
      made = made_all_below answers spaces inner v cut x y n whole m part part_is.same added.0 way added.2.made;
      fit = subst (λ (space : Space). IsFit space added.0) way.asked added.2.fit;
      pass = λ test own other. added.2.pass test (passes_parts test v cut x y n whole own).1 (part_is.pass test other);
    },
  )

  -- if all scenarios of both spaces go above, the answers added for the side above are those of the fork
  pub added_above : (inner : SpacePair) → IsInner spaces (λ s. cut < number_of s v) inner →
      AddsTree (IsJoinedIn answers inner y part) old new →
      AddsTree (IsJoinedIn answers spaces n m) old new
  -- `added`: the tree that was added, how its list stands in the new one, and what is known of it, which carries over
  added_above inner way added = (
    added.0,
    added.1,
    record {
      made = made_all_above answers spaces inner v cut x y n whole m part part_is.same added.0 way added.2.made;
      fit = subst (λ (space : Space). IsFit space added.0) way.asked added.2.fit;
      pass = λ test own other. added.2.pass test (passes_parts test v cut x y n whole own).2 (part_is.pass test other);
    },
  )

  -- given: the spaces open on both sides of the cut, the spaces closed above it and below it, and the lists after
  -- either side
  module _ (met shut upper : SpacePair) (opens : AreBothOpen spaces v cut) (same : met ≡ spaces)
      (shut_is : shut.asked ≡ below_cut met.asked v cut) (upper_is : upper.asked ≡ above_cut met.asked v cut)
      (lies_shut : (s : Scenario) → IsInBothSpaces met s → number_of s v ≤ cut → IsInBothSpaces shut s)
      (lies_upper : (s : Scenario) → IsInBothSpaces met s → cut < number_of s v → IsInBothSpaces upper s)
      (start middle : ℕ) (lower higher : List (TreeItem V)) (first : start ≡ length old)
      (second : middle ≡ length lower) (forks : ForksEnd start middle v cut higher new) where
    -- the answers for both sides, joined by a fork, are those of the fork
    pub added_fork : AddsTree (IsJoinedIn answers shut x part) old lower →
        AddsTree (IsJoinedIn answers upper y part) lower higher →
        AddsTree (IsJoinedIn answers spaces n m) old new
    -- fork: the tree that takes the place of both; its values are those of the sides (`made`), it fits the space asked
    -- for, as the sides fit their parts of it (`fit`), and its variables are v and those of the sides (`pass`)
    added_fork one two =
        let fork =
        forks old one.0 two.0 (split_of start middle old lower higher one.0 two.0 one.1 two.1 first second) in (
          fork.0,
          fork.1,
          record {
            -- a scenario up to the cut has the answer of the lower side, any other that of the upper one
            made = both_whole answers spaces n m part fork.0 part_is.same
                (subst (λ (q : SpacePair). IsJoinIn answers (IsInBothSpaces q) n part fork.0) same
                (two_fork_of (λ s x z. answers x (value_at part s) z) (λ s x u. low_at part s u)
                (λ k s x u. high_at k part s u) (IsInBothSpaces met) v cut x y n whole fork.0 (IsInBothSpaces shut)
                (IsInBothSpaces upper) one.0 two.0 one.2.made two.2.made fork.2.made lies_shut lies_upper));
            -- the fork fits the space, as its cut is inside and each side fits its part
            fit = fork.2.fit spaces.asked opens.below opens.above
                (subst (λ (space : Space). IsFit space one.0)
                (shut_is ∙ ap (λ (q : SpacePair). below_cut q.asked v cut) same) one.2.fit)
                (subst (λ (space : Space). IsFit space two.0)
                (upper_is ∙ ap (λ (q : SpacePair). above_cut q.asked v cut) same) two.2.fit);
            -- the variables of the result are those of the trees, as on both sides
            pass = λ test own other.
                let parts = passes_parts test v cut x y n whole own in
                let others = part_is.pass test other in
                fork.2.pass test parts.0 (one.2.pass test parts.1 others) (two.2.pass test parts.2 others);
          },
        )

-- ---- two whole trees in one space

-- given: two trees, and a function of the greater of their numbers
module _ {T U V : Type 0} (number : T → ℕ) (other_number : U → ℕ) (makes : ℕ → V → Type 0) (space : Space)
    (n : TreeNode T) (m : TreeNode U) (old new : List (TreeItem V)) where
  -- what is made of the greater number of two leaves
  abbrev both_answers : T → U → V → Type 0
  both_answers x y z = makes (max (number x) (other_number y)) z

  -- if one tree's number is always the greater, the answers made of that tree alone are those of both
  first_alone : (at : ℕ) →
      ((s : Scenario) → max at (number (value_at n s)) ≡ max (number (value_at n s)) (other_number (value_at m s))) →
      IsFit space n →
      AddsTree (IsMapped (λ (x : T) (z : V). makes (max at (number x)) z) n) old new →
      AddsTree (IsJoined both_answers space n m) old new
  -- `added`: the tree that was added, how its list stands in the new one, and what is known of it, which carries over
  first_alone at same fits added = (
    added.0,
    added.1,
    record {
      made = record {
        value = λ s inside. subst (λ (k : ℕ). makes k (value_at added.0 s)) (same s) (added.2.made.value s tt);
        lows = λ s v inside. omega (arith, added.2.made.lows s v tt);
        highs = λ k s v inside. omega (arith, added.2.made.highs k s v tt);
      };
      fit = added.2.fit space fits;
      pass = λ test own other. added.2.pass test own;
    },
  )

  -- if the second tree's number is always the greater, the answers made of that tree alone are those of both
  second_alone : (at : ℕ) → ((s : Scenario) →
      max at (other_number (value_at m s)) ≡ max (number (value_at n s)) (other_number (value_at m s))) →
      IsFit space m →
      AddsTree (IsMapped (λ (y : U) (z : V). makes (max at (other_number y)) z) m) old new →
      AddsTree (IsJoined both_answers space n m) old new
  -- `added`: the tree that was added, how its list stands in the new one, and what is known of it, which carries over
  second_alone at same fits added = (
    added.0,
    added.1,
    record {
      made = record {
        value = λ s inside. subst (λ (k : ℕ). makes k (value_at added.0 s)) (same s) (added.2.made.value s tt);
        lows = λ s v inside. omega (arith, added.2.made.lows s v tt);
        highs = λ k s v inside. omega (arith, added.2.made.highs k s v tt);
      };
      fit = added.2.fit space fits;
      pass = λ test own other. added.2.pass test other;
    },
  )

  -- if one tree is one value, the greater of that value and the other tree's is added
  pub first_added : (x : T) (at : ℕ) → n ≡ Leaf x → at ≡ number x → IsFit space m →
      AddsTree (IsMapped (λ (y : U) (z : V). makes (max at (other_number y)) z) m) old new →
      AddsTree (IsJoined both_answers space n m) old new
  first_added x at leaf value =
      second_alone at (λ s. omega (arith, value, ap (λ (c : TreeNode T). number (value_at c s)) leaf))

  -- if the second tree is one value, the greater of that value and the first tree's is added
  pub second_added : (y : U) (at : ℕ) → m ≡ Leaf y → at ≡ other_number y → IsFit space n →
      AddsTree (IsMapped (λ (x : T) (z : V). makes (max at (number x)) z) n) old new →
      AddsTree (IsJoined both_answers space n m) old new
  second_added y at leaf value =
      first_alone at (λ s. omega (arith, value, ap (λ (c : TreeNode U). other_number (value_at c s)) leaf))

  -- if one tree is at least the other everywhere, its values are added
  pub first_whole : IsAtLeast number other_number n m → IsFit space n →
      AddsTree (IsMapped (λ (x : T) (z : V). makes (max 0 (number x)) z) n) old new
      → AddsTree (IsJoined both_answers space n m) old new
  first_whole least = first_alone 0 (λ s. omega (arith, least s s))

  -- if the second tree is at least the first everywhere, its values are added
  pub second_whole : IsAtLeast other_number number m n → IsFit space m →
      AddsTree (IsMapped (λ (y : U) (z : V). makes (max 0 (other_number y)) z) m) old new
      → AddsTree (IsJoined both_answers space n m) old new
  second_whole least = second_alone 0 (λ s. omega (arith, least s s))

  -- answers made with one space both asked for and walked are answers in that space
  pub joined_added : AddsTree (IsJoinedIn both_answers (record { asked = space; walked = space }) n m) old new →
      AddsTree (IsJoined both_answers space n m) old new
  -- `added`: the tree that was added, how its list stands in the new one, and what is known of it, which carries over
  joined_added added = (
    added.0,
    added.1,
    record {
      made = made_narrower (IsInBothSpaces (record { asked = space; walked = space }))
          (IsInSpace space) _ _ _ added.0 added.2.made (λ s inside. (inside, inside));
      fit = added.2.fit;
      pass = added.2.pass;
    },
  )
