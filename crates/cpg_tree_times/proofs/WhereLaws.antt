-- What is added of two trees where a chooser is true.
use Rattle.std.proofs.Common.{ℕ, ◌<◌, ◌≤◌, ◌≡◌, List, [], ◌∷◌, ◌++◌, length, Bool, true, false, refl, sym, ap, ◌∙◌}
use Rattle.std.proofs.Common.{subst}
use Rattle.cpg_base.specs.Scenario.{Scenario, number_of}
use Rattle.cpg_tree.specs.Added.{AddsTree, ForksEnd}
use Rattle.cpg_tree_times.specs.AddedInBoth.{IsJoinedIn, IsJoinedWhere}
use Rattle.cpg_tree_times.specs.Asked.{IsInBothSpaces, SpacePair}
use Rattle.cpg_tree.specs.Decision.{DoForksPass, IsFit}
use Rattle.cpg_tree.specs.Flat.{flat}
use Rattle.cpg_tree.specs.Space.{IsInSpace, above_cut, below_cut, is_open_above, is_open_below}
use Rattle.cpg_tree.specs.declared.space.Space.{Space}
use Rattle.cpg_tree.specs.TreeNode.{TreeNode, Leaf, Fork}
use Rattle.cpg_tree.specs.declared.item.TreeItem.{TreeItem}
use Rattle.cpg_tree.specs.declared.item.TreeItem.TheVariants.{Value}
use Rattle.cpg_tree.proofs.Flats.{flat-same}
use Rattle.cpg_tree.proofs.Forks.{passes_parts}
use Rattle.cpg_tree.proofs.JoinLaws.{split_of}
use Rattle.cpg_tree_times.proofs.Where.{where_above, where_below, where_fork, where_off, where_on}

-- given: the list of a chooser, and two trees
module _ {T U V : Type 0} (answers : T → U → V → Type 0) (none : V) (spaces : SpacePair) (c : TreeNode Bool)
    (items : List (TreeItem Bool)) (are : items ≡ flat c) (n : TreeNode T) (m : TreeNode U)
    (old new : List (TreeItem V)) where
  -- if the chooser is true, what is added of the two trees is the result
  pub where_value_on : items ≡ flat (Leaf true) → AddsTree (IsJoinedIn answers spaces n m) old new →
      AddsTree (IsJoinedWhere answers none spaces c n m) old new
  -- `added`: the tree that was added, how its list stands in the new one, and what is known of it, which carries over
  where_value_on is added = (
    added.0,
    added.1,
    record {
      made = where_on answers none spaces n m c (flat-same c (Leaf true) (sym are ∙ is)) added.0 added.2.made;
      fit = added.2.fit;
      pass = λ test chooser own other. added.2.pass test own other;
    },
  )

  -- if the chooser is false, the one value is added
  pub where_value_off : items ≡ flat (Leaf false) → new ≡ old ++ (Value none ∷ []) →
      AddsTree (IsJoinedWhere answers none spaces c n m) old new
  where_value_off is added = (
    Leaf none,
    added,
    record {
      made = where_off answers none spaces n m c (flat-same c (Leaf false) (sym are ∙ is));
      fit = tt;
      pass = λ test chooser own other. tt;
    },
  )

  -- given: a chooser that is a fork
  module _ (v cut : ℕ) (x y : TreeNode Bool) (is : items ≡ flat (Fork v cut x y)) where
    -- the chooser is the fork
    fork_is : c ≡ Fork v cut x y
    fork_is = flat-same c (Fork v cut x y) (sym are ∙ is)

    -- if all scenarios go below, the answers added with the chooser's side below are those of the fork
    pub where_side_below : ((s : Scenario) → IsInSpace spaces.asked s → number_of s v ≤ cut) →
        AddsTree (IsJoinedWhere answers none spaces x n m) old new
        → AddsTree (IsJoinedWhere answers none spaces c n m) old new
    -- `added`: the tree that was added, how its list stands in the new one, and what is known of it, which carries over
    where_side_below only added = (
      added.0,
      added.1,
      record {
        made = where_below answers none spaces n m v cut x y c fork_is added.0 added.2.made only;
        fit = added.2.fit;
        pass = λ test chooser own other. added.2.pass test (passes_parts test v cut x y c fork_is chooser).1 own other;
      },
    )

    -- if all scenarios go above, the answers added with the chooser's side above are those of the fork
    pub where_side_above : ((s : Scenario) → IsInSpace spaces.asked s → cut < number_of s v) →
        AddsTree (IsJoinedWhere answers none spaces y n m) old new
        → AddsTree (IsJoinedWhere answers none spaces c n m) old new
    -- `added`: the tree that was added, how its list stands in the new one, and what is known of it, which carries over
    where_side_above only added = (
      added.0,
      added.1,
      record {
        made = where_above answers none spaces n m v cut x y c fork_is added.0 added.2.made only;
        fit = added.2.fit;
        pass = λ test chooser own other. added.2.pass test (passes_parts test v cut x y c fork_is chooser).2 own other;
      },
    )

    -- given: spaces open on both sides of the cut, the spaces closed above it and below it, and the lists after
    -- either side
    module _ (shut upper : SpacePair) (under : is_open_below spaces.asked v cut ≡ true)
        (over : is_open_above spaces.asked v cut ≡ true) (shut_is : shut.asked ≡ below_cut spaces.asked v cut)
        (upper_is : upper.asked ≡ above_cut spaces.asked v cut)
        (lies_shut : (s : Scenario) → IsInBothSpaces spaces s → number_of s v ≤ cut → IsInBothSpaces shut s)
        (lies_upper : (s : Scenario) → IsInBothSpaces spaces s → cut < number_of s v → IsInBothSpaces upper s)
        (start middle : ℕ) (lower higher : List (TreeItem V)) (first : start ≡ length old)
        (second : middle ≡ length lower) (forks : ForksEnd start middle v cut higher new) where
      -- the answers with both sides of the chooser, joined by a fork, are those of the fork
      pub where_both_sides : AddsTree (IsJoinedWhere answers none shut x n m) old lower →
          AddsTree (IsJoinedWhere answers none upper y n m) lower higher
          → AddsTree (IsJoinedWhere answers none spaces c n m) old new
      -- fork: the tree that takes the place of both; its values are those of the sides (`made`), it fits the space
      -- asked for, as the sides fit their parts of it (`fit`), and its variables are v and those of the sides (`pass`)
      where_both_sides one two =
          let fork =
          forks old one.0 two.0 (split_of start middle old lower higher one.0 two.0 one.1 two.1 first second) in (
            fork.0,
            fork.1,
            record {
              made = where_fork answers none spaces n m v cut x y c fork_is fork.0 shut upper one.0 two.0 one.2.made
                  two.2.made fork.2.made lies_shut lies_upper;
              fit = fork.2.fit spaces.asked under over (subst (λ (space : Space). IsFit space one.0) shut_is one.2.fit)
                  (subst (λ (space : Space). IsFit space two.0) upper_is two.2.fit);
              pass = λ test chooser own other.
                  let parts = passes_parts test v cut x y c fork_is chooser in
                  fork.2.pass test parts.0 (one.2.pass test parts.1 own other) (two.2.pass test parts.2 own other);
            },
          )
