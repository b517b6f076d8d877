-- What a chooser picks of two trees, for the scenarios of a space.
use Rattle.std.proofs.Common.{ℕ, ◌<◌, ◌≤◌, ◌≡◌, List, length, Bool, true, false, sym, ◌∙◌, subst}
use Rattle.cpg_base.specs.Scenario.{Scenario, number_of}
use Rattle.cpg_tree.specs.Space.{Space, IsInSpace, is_open_below, is_open_above, below_cut, above_cut}
use Rattle.cpg_tree.specs.TreeNode.{TreeNode, Leaf, Fork}
use Rattle.cpg_tree.specs.declared.item.TreeItem.{TreeItem}
use Rattle.cpg_tree.specs.Decision.{IsFit, value_at, low_at, high_at}
use Rattle.cpg_tree.specs.Results.{picked}
use Rattle.cpg_tree.specs.Flat.{flat}
use Rattle.cpg_tree.specs.Added.{AddsTree, ForksEnd, IsRestricted, IsPartInSpace, IsPicked}
use Rattle.cpg_tree.proofs.Forks.{two_above_of, two_below_of, two_fork_of, two_leaf_of, pick_whole, passes_parts}
use Rattle.cpg_tree.proofs.Flats.{flat-same}
use Rattle.cpg_tree.proofs.JoinLaws.{fork_is, split_of}

-- given: a space, the two trees to pick from, and the list before and after what is picked is added
module _ {T : Type 0} (space : Space) (on off : TreeNode T) (old new : List (TreeItem T)) where
  -- given: the chooser n is a fork, and `items` is its list
  module _ (v cut : ℕ) (x y n : TreeNode Bool) (items : List (TreeItem Bool)) (is : items ≡ flat (Fork v cut x y))
      (are : items ≡ flat n) where
    -- the tree is the fork
    whole : n ≡ Fork v cut x y
    whole = fork_is space v cut x y n items is are

    -- if all scenarios of the space go above, what the chooser's side above picks is picked by the chooser
    pub picks_above : ((s : Scenario) → IsInSpace space s → cut < number_of s v) →
        AddsTree (IsPicked space y on off) old new →
        AddsTree (IsPicked space n on off) old new
    -- `added`: the tree that was added, how its list stands in the new one, and what is known of it, which carries over
    picks_above only added = (
      added.0,
      added.1,
      record {
        made = two_above_of (λ s b z. z ≡ value_at (picked b on off) s) (λ s b u. low_at (picked b on off) s u)
            (λ k s b u. high_at k (picked b on off) s u)
            (IsInSpace space) v cut x y n whole added.0 added.2.made only;
        fit = added.2.fit;
        pass = λ test pass one two. added.2.pass test (passes_parts test v cut x y n whole pass).2 one two;
      },
    )

    -- if all scenarios go below, what the chooser's side below picks is picked by the chooser
    pub picks_below : ((s : Scenario) → IsInSpace space s → number_of s v ≤ cut) →
        AddsTree (IsPicked space x on off) old new →
        AddsTree (IsPicked space n on off) old new
    -- `added`: the tree that was added, how its list stands in the new one, and what is known of it, which carries over
    picks_below only added = (
      added.0,
      added.1,
      record {
        made = two_below_of (λ s b z. z ≡ value_at (picked b on off) s) (λ s b u. low_at (picked b on off) s u)
            (λ k s b u. high_at k (picked b on off) s u)
            (IsInSpace space) v cut x y n whole added.0 added.2.made only;
        fit = added.2.fit;
        pass = λ test pass one two. added.2.pass test (passes_parts test v cut x y n whole pass).1 one two;
      },
    )

    -- given: a space open on both sides of the cut, that space closed above it and below it, and the lists after
    -- either side
    module _ (shut upper : Space) (start middle : ℕ) (low high : List (TreeItem T))
        (under : is_open_below space v cut ≡ true) (over : is_open_above space v cut ≡ true)
        (shut_is : shut ≡ below_cut space v cut) (upper_is : upper ≡ above_cut space v cut)
        (lies_shut : (s : Scenario) → IsInSpace space s → number_of s v ≤ cut → IsInSpace shut s)
        (lies_upper : (s : Scenario) → IsInSpace space s → cut < number_of s v → IsInSpace upper s)
        (first : start ≡ length old) (second : middle ≡ length low)
        (forks : ForksEnd start middle v cut high new) where
      -- what is picked on both sides, joined by a fork, is picked by the whole chooser
      pub picks_fork : AddsTree (IsPicked shut x on off) old low → AddsTree (IsPicked upper y on off) low high →
          AddsTree (IsPicked space n on off) old new
      -- fork: the tree that takes the place of both; its values are those of the sides (`made`), it fits the space, as
      -- the sides fit their parts of it (`fit`), and its variables are v and those of the sides (`pass`)
      picks_fork one two =
          let fork =
          forks old one.0 two.0 (split_of start middle old low high one.0 two.0 one.1 two.1 first second) in (
            fork.0,
            fork.1,
            record {
              made = two_fork_of (λ s b z. z ≡ value_at (picked b on off) s) (λ s b u. low_at (picked b on off) s u)
                  (λ k s b u. high_at k (picked b on off) s u) (IsInSpace space) v cut x y n
                  whole fork.0
                  (IsInSpace shut) (IsInSpace upper) one.0 two.0 one.2.made two.2.made fork.2.made lies_shut lies_upper;
              fit = fork.2.fit space under over (subst (λ r. IsFit r one.0) shut_is one.2.fit)
                  (subst (λ r. IsFit r two.0) upper_is two.2.fit);
              pass = λ test pass ons offs. let parts = passes_parts test v cut x y n whole pass in
                  fork.2.pass test parts.0 (one.2.pass test parts.1 ons offs) (two.2.pass test parts.2 ons offs);
            },
          )

  -- given: a chooser, and the list of its items
  module _ (n : TreeNode Bool) (items : List (TreeItem Bool)) (are : items ≡ flat n) where
    -- a chooser that is true picks the tree `on` in all scenarios
    pub picks_on : items ≡ flat (Leaf true) → AddsTree (IsRestricted space on) old new →
        AddsTree (IsPicked space n on off) old new
    -- `added`: the tree that was added, how its list stands in the new one, and what is known of it, which carries over
    picks_on leaf added = (
      added.0,
      added.1,
      record {
        made = two_leaf_of (λ s b z. z ≡ value_at (picked b on off) s) (λ s b u. low_at (picked b on off) s u)
            (λ k s b u. high_at k (picked b on off) s u) (IsInSpace space) true n
            (flat-same n (Leaf true) (sym are ∙ leaf)) added.0 added.2.made;
        fit = added.2.fit;
        pass = λ test pass ons offs. added.2.pass test ons;
      },
    )

    -- a chooser that is false picks the tree `off` in all scenarios
    pub picks_off : items ≡ flat (Leaf false) → AddsTree (IsRestricted space off) old new →
        AddsTree (IsPicked space n on off) old new
    -- `added`: the tree that was added, how its list stands in the new one, and what is known of it, which carries over
    picks_off leaf added = (
      added.0,
      added.1,
      record {
        made = two_leaf_of (λ s b z. z ≡ value_at (picked b on off) s) (λ s b u. low_at (picked b on off) s u)
            (λ k s b u. high_at k (picked b on off) s u) (IsInSpace space) false n
            (flat-same n (Leaf false) (sym are ∙ leaf)) added.0 added.2.made;
        fit = added.2.fit;
        pass = λ test pass ons offs. added.2.pass test offs;
      },
    )

-- what is picked of parts is picked of the whole trees
pub picks_whole : {T : Type 0} (space : Space) (n : TreeNode Bool) (on off on_part off_part : TreeNode T)
    (old new : List (TreeItem T)) →
    IsPartInSpace space on on_part
    → IsPartInSpace space off off_part →
    AddsTree (IsPicked space n on_part off_part) old new → AddsTree (IsPicked space n on off) old new
-- `added`: the tree that was added, how its list stands in the new one, and what is known of it, which carries over
picks_whole space n on off on_part off_part old new ons offs added = (
  added.0,
  added.1,
  record {
    made = pick_whole space n on off on_part off_part added.0 ons.same offs.same added.2.made;
    fit = added.2.fit;
    pass = λ test pass one two. added.2.pass test pass (ons.pass test one) (offs.pass test two);
  },
)
