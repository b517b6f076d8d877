-- What the answers of a function make of one tree or two, for the scenarios of a space.
use Rattle.std.proofs.Common.{ℕ, ◌+◌, ◌<◌, ◌≤◌, ◌≡◌, List, [], ◌∷◌, ◌++◌, length, Bool, true, arith, refl, sym, ap, ◌∙◌}
use Rattle.std.proofs.Common.{subst}
use Rattle.std.proofs.lemmas.List.{length-append}
use Rattle.cpg_base.specs.Scenario.{Scenario, number_of}
use Rattle.cpg_tree.specs.declared.space.Space.{Space}
use Rattle.cpg_tree.specs.Space.{IsInSpace, is_open_below, is_open_above, below_cut, above_cut}
use Rattle.cpg_tree.specs.TreeNode.{TreeNode, Leaf, Fork}
use Rattle.cpg_tree.specs.declared.item.TreeItem.{TreeItem}
use Rattle.cpg_tree.specs.declared.item.TreeItem.TheVariants.{Value, Cut}
use Rattle.cpg_tree.specs.Decision.{IsFit, DoForksPass, value_at, low_at, high_at}
use Rattle.cpg_tree.specs.Flat.{flat}
use Rattle.cpg_tree.specs.Added.{AddsTree, ForksEnd, IsSplit, IsPartInSpace, IsPartList, IsFilled, IsJoined}
use Rattle.cpg_tree.proofs.Forks.{one_above_of, one_below_of, one_fork_of, two_above_of, two_below_of, two_fork_of}
use Rattle.cpg_tree.proofs.Forks.{two_leaf_of, join_whole, passes_parts}
use Rattle.cpg_tree.proofs.Flats.{flat-same}

-- ---- two lists behind another are split there

-- if the lists of two trees are added one behind the other, their lengths say where the whole is split
pub split_of : {T : Type 0} (start middle : ℕ) (old low high : List (TreeItem T)) (lo hi : TreeNode T) →
    low ≡ old ++ flat lo → high ≡ low ++ flat hi → start ≡ length old →
    middle ≡ length low →
    IsSplit start middle high old lo hi
split_of {T} start middle old low high lo hi one two first second = record {
  is = two ∙ ap (λ (xs : List (TreeItem T)). xs ++ flat hi) one;
  first = first;
  second = second ∙ ap length one ∙ length-append old (flat lo);
}

-- given: a fork, and the list of its items
module _ {T : Type 0} (space : Space) (v cut : ℕ) (x y n : TreeNode T) (items : List (TreeItem T))
    (is : items ≡ flat (Fork v cut x y)) (are : items ≡ flat n) where
  -- a tree with a fork's list is the fork
  pub fork_is : n ≡ Fork v cut x y
  fork_is = flat-same n (Fork v cut x y) (sym are ∙ is)

  -- ---- parts

  -- if all scenarios of the space go above, the part of the side above is the part of the whole tree
  pub part_above : (part : List (TreeItem T)) → ((s : Scenario) → IsInSpace space s → cut < number_of s v) →
      IsPartList space y part →
      IsPartList space n part
  -- `added`: the tree that was added, how its list stands in the new one, and what is known of it, which carries over
  part_above part only added = (
    added.0,
    added.1,
    record {
      same = one_above_of (λ s x z. z ≡ x) (IsInSpace space) v cut x y n fork_is added.0 added.2.same only;
      pass = λ test pass. added.2.pass test (passes_parts test v cut x y n fork_is pass).2;
    },
  )

  -- if all scenarios go below, the part of the side below is the part of the whole tree
  pub part_below : (part : List (TreeItem T)) → ((s : Scenario) → IsInSpace space s → number_of s v ≤ cut) →
      IsPartList space x part →
      IsPartList space n part
  -- `added`: the tree that was added, how its list stands in the new one, and what is known of it, which carries over
  part_below part only added = (
    added.0,
    added.1,
    record {
      same = one_below_of (λ s x z. z ≡ x) (IsInSpace space) v cut x y n fork_is added.0 added.2.same only;
      pass = λ test pass. added.2.pass test (passes_parts test v cut x y n fork_is pass).1;
    },
  )

  -- ---- a value and a tree

  -- given: a function's answers to the value `a` and the values of a tree, and the list before and after they are added
  module _ {A V : Type 0} (answers : A → T → V → Type 0) (a : A) (old new : List (TreeItem V)) where
    -- if all scenarios of the space go above, the answers added for the side above are those of the whole tree
    pub fills_above : ((s : Scenario) → IsInSpace space s → cut < number_of s v) →
        AddsTree (IsFilled answers space a y) old new →
        AddsTree (IsFilled answers space a n) old new
    -- `added`: the tree that was added, how its list stands in the new one, and what is known of it, which carries over
    fills_above only added = (
      added.0,
      added.1,
      record {
        made = one_above_of (λ s y z. answers a y z) (IsInSpace space) v cut x y n fork_is added.0 added.2.made only;
        fit = added.2.fit;
        pass = λ test pass. added.2.pass test (passes_parts test v cut x y n fork_is pass).2;
      },
    )

    -- if all scenarios go below, the answers added for the side below are those of the whole tree
    pub fills_below : ((s : Scenario) → IsInSpace space s → number_of s v ≤ cut) →
        AddsTree (IsFilled answers space a x) old new →
        AddsTree (IsFilled answers space a n) old new
    -- `added`: the tree that was added, how its list stands in the new one, and what is known of it, which carries over
    fills_below only added = (
      added.0,
      added.1,
      record {
        made = one_below_of (λ s y z. answers a y z) (IsInSpace space) v cut x y n fork_is added.0 added.2.made only;
        fit = added.2.fit;
        pass = λ test pass. added.2.pass test (passes_parts test v cut x y n fork_is pass).1;
      },
    )

    -- given: a space open on both sides of the cut, that space closed above it and below it, and the lists after
    -- either side
    module _ (shut upper : Space) (start middle : ℕ) (low high : List (TreeItem V))
        (under : is_open_below space v cut ≡ true) (over : is_open_above space v cut ≡ true)
        (shut_is : shut ≡ below_cut space v cut) (upper_is : upper ≡ above_cut space v cut)
        (lies_shut : (s : Scenario) → IsInSpace space s → number_of s v ≤ cut → IsInSpace shut s)
        (lies_upper : (s : Scenario) → IsInSpace space s → cut < number_of s v → IsInSpace upper s)
        (first : start ≡ length old) (second : middle ≡ length low)
        (forks : ForksEnd start middle v cut high new) where
      -- the answers for both sides, joined by a fork, are those of the whole tree
      pub fills_fork : AddsTree (IsFilled answers shut a x) old low → AddsTree (IsFilled answers upper a y) low high →
          AddsTree (IsFilled answers space a n) old new
      -- fork: the tree that takes the place of both; its values are those of the sides (`made`), it fits the space, as
      -- the sides fit their parts of it (`fit`), and its variables are v and those of the sides (`pass`)
      fills_fork one two =
          let fork =
          forks old one.0 two.0 (split_of start middle old low high one.0 two.0 one.1 two.1 first second) in (
            fork.0,
            fork.1,
            record {
              made = one_fork_of (λ s y z. answers a y z) (IsInSpace space) v cut x y n fork_is fork.0 (IsInSpace shut)
                  (IsInSpace upper) one.0 two.0 one.2.made two.2.made fork.2.made lies_shut
                  lies_upper;
              fit = fork.2.fit space under over (subst (λ r. IsFit r one.0) shut_is one.2.fit)
                  (subst (λ r. IsFit r two.0) upper_is two.2.fit);
              pass = λ test pass. let parts = passes_parts test v cut x y n fork_is pass in
                  fork.2.pass test parts.0 (one.2.pass test parts.1) (two.2.pass test parts.2);
            },
          )

  -- ---- two trees

  -- given: a function's answers to the values of two trees, the second of which is m, and the list before and after
  -- they are added
  module _ {U V : Type 0} (answers : T → U → V → Type 0) (m : TreeNode U) (old new : List (TreeItem V)) where
    -- if all scenarios of the space go above, the answers added for the side above are those of the whole tree
    pub joins_above : ((s : Scenario) → IsInSpace space s → cut < number_of s v) →
        AddsTree (IsJoined answers space y m) old new →
        AddsTree (IsJoined answers space n m) old new
    -- `added`: the tree that was added, how its list stands in the new one, and what is known of it, which carries over
    joins_above only added = (
      added.0,
      added.1,
      record {
        made = two_above_of (λ s x z. answers x (value_at m s) z) (λ s x u. low_at m s u) (λ k s x u. high_at k m s u)
            (IsInSpace space) v cut x y n fork_is added.0 added.2.made only;
        fit = added.2.fit;
        pass = λ test pass other. added.2.pass test (passes_parts test v cut x y n fork_is pass).2 other;
      },
    )

    -- if all scenarios go below, the answers added for the side below are those of the whole tree
    pub joins_below : ((s : Scenario) → IsInSpace space s → number_of s v ≤ cut) →
        AddsTree (IsJoined answers space x m) old new →
        AddsTree (IsJoined answers space n m) old new
    -- `added`: the tree that was added, how its list stands in the new one, and what is known of it, which carries over
    joins_below only added = (
      added.0,
      added.1,
      record {
        made = two_below_of (λ s x z. answers x (value_at m s) z) (λ s x u. low_at m s u) (λ k s x u. high_at k m s u)
            (IsInSpace space) v cut x y n fork_is added.0 added.2.made only;
        fit = added.2.fit;
        pass = λ test pass other. added.2.pass test (passes_parts test v cut x y n fork_is pass).1 other;
      },
    )

    -- given: a space open on both sides of the cut, that space closed above it and below it, and the lists after
    -- either side
    module _ (shut upper : Space) (start middle : ℕ) (low high : List (TreeItem V))
        (under : is_open_below space v cut ≡ true) (over : is_open_above space v cut ≡ true)
        (shut_is : shut ≡ below_cut space v cut) (upper_is : upper ≡ above_cut space v cut)
        (lies_shut : (s : Scenario) → IsInSpace space s → number_of s v ≤ cut → IsInSpace shut s)
        (lies_upper : (s : Scenario) → IsInSpace space s → cut < number_of s v → IsInSpace upper s)
        (first : start ≡ length old) (second : middle ≡ length low)
        (forks : ForksEnd start middle v cut high new) where
      -- the answers for both sides, joined by a fork, are those of the whole tree
      pub joins_fork : AddsTree (IsJoined answers shut x m) old low → AddsTree (IsJoined answers upper y m) low high →
          AddsTree (IsJoined answers space n m) old new
      -- fork: the tree that takes the place of both; its values are those of the sides (`made`), it fits the space, as
      -- the sides fit their parts of it (`fit`), and its variables are v and those of the sides (`pass`)
      joins_fork one two =
          let fork =
          forks old one.0 two.0 (split_of start middle old low high one.0 two.0 one.1 two.1 first second) in (
            fork.0,
            fork.1,
            record {
              made = two_fork_of (λ s x z. answers x (value_at m s) z) (λ s x u. low_at m s u)
                  (λ k s x u. high_at k m s u) (IsInSpace space) v cut x y n fork_is fork.0 (IsInSpace shut)
                  (IsInSpace upper) one.0 two.0 one.2.made two.2.made fork.2.made lies_shut lies_upper;
              fit = fork.2.fit space under over (subst (λ r. IsFit r one.0) shut_is one.2.fit)
                  (subst (λ r. IsFit r two.0) upper_is two.2.fit);
              pass = λ test pass other. let parts = passes_parts test v cut x y n fork_is pass in
                  fork.2.pass test parts.0 (one.2.pass test parts.1 other) (two.2.pass test parts.2 other);
            },
          )

-- the answer to a value fills a leaf
filled_leaf : {A T V : Type 0} (answers : A → T → V → Type 0) (space : Space) (a : A) (x : T) (z : V) → answers a x z →
    IsFilled answers space a (Leaf x) (Leaf z)
filled_leaf answers space a x z is = record {
  made = record { value = λ s inside. is; lows = λ s v inside. omega arith; highs = λ k s v inside. omega arith };
  fit = tt;
  pass = λ test pass. pass;
}

-- if the tree is one value, the answer to it is added
pub fills_leaf : {A T V : Type 0} (answers : A → T → V → Type 0) (space : Space) (a : A) (x : T) (z : V)
    (n : TreeNode T) (items : List (TreeItem T)) (old new : List
    (TreeItem V)) → answers a x z → items ≡ flat (Leaf x) → items ≡ flat n →
    new ≡ old ++ (Value z ∷ []) → AddsTree (IsFilled answers space a n) old new
fills_leaf answers space a x z n items old new is leaf are added = (
  Leaf z,
  added,
  subst (λ m. IsFilled answers space a m (Leaf z)) (flat-same (Leaf x) n (sym leaf ∙ are))
      (filled_leaf answers space a x z is),
)

-- if the first tree is one value, the answers to it and the other tree's values are those of the two trees
pub joins_leaf : {T U V : Type 0} (answers : T → U → V → Type 0) (space : Space) (x : T) (n : TreeNode T)
    (m : TreeNode U) (items : List (TreeItem T)) (old new : List (TreeItem V)) → items ≡ flat
    (Leaf x) → items ≡ flat n →
    AddsTree (IsFilled answers space x m) old new → AddsTree (IsJoined answers space n m) old new
-- `added`: the tree that was added, how its list stands in the new one, and what is known of it, which carries over
joins_leaf answers space x n m items old new leaf are added = (
  added.0,
  added.1,
  record {
    made = two_leaf_of (λ s x z. answers x (value_at m s) z) (λ s x v. low_at m s v) (λ k s x v. high_at k m s v)
        (IsInSpace space) x n (flat-same n (Leaf x) (sym are ∙ leaf)) added.0 added.2.made;
    fit = added.2.fit;
    pass = λ test pass other. added.2.pass test other;
  },
)

-- answers made with the part of a tree that a space comes to are made with the tree
pub joins_whole : {T U V : Type 0} (answers : T → U → V → Type 0) (space : Space) (n : TreeNode T) (m part : TreeNode U)
    (old new : List (TreeItem V)) → IsPartInSpace space m part → AddsTree
    (IsJoined answers space n part) old new → AddsTree (IsJoined answers space n m) old new
-- `added`: the tree that was added, how its list stands in the new one, and what is known of it, which carries over
joins_whole answers space n m part old new is added = (
  added.0,
  added.1,
  record {
    made = join_whole answers space n m part added.0 is.same added.2.made;
    fit = added.2.fit;
    pass = λ test pass other. added.2.pass test pass (is.pass test other);
  },
)
