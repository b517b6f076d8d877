-- What a walk adds to a list if it follows two spaces: the scenarios asked for, and those walked.
use Rattle.std.specs.Prelude.{ℕ, ◌≡◌, Bool, List}
use Rattle.cpg_tree.specs.TreeNode.{TreeNode}
use Rattle.cpg_tree.specs.declared.space.Space.{Space}
use Rattle.cpg_tree_times.specs.Asked.{SpacePair, IsInBothSpaces}
use Rattle.cpg_tree.specs.Added.{IsPartInSpace}
use Rattle.cpg_tree_times.specs.Bounds.{bounds_in}
use Rattle.cpg_tree.specs.Decision.{DoForksPass, IsFit}
use Rattle.cpg_tree.specs.Flat.{flat}
use Rattle.cpg_tree.specs.Results.{IsJoinIn, IsJoinWhereOf}
use Rattle.cpg_tree_times.specs.declared.bounds.Span.{Span}
use Rattle.cpg_tree.specs.declared.item.TreeItem.{TreeItem}

-- `part` is the list of the part of the tree a that the space comes to. If `bounds` are the spans of a's forks under a
-- reading, `spans` are those of the part's forks.
abbrev pub IsBoundedPartList : {T : Type 0} → Space → TreeNode T → List Span → List (TreeItem T) → List Span → Type 0
IsBoundedPartList {T} space a bounds part spans = (r : TreeNode T) × (part ≡ flat r) × IsPartInSpace space a r ×
    ((number : T → ℕ) → bounds ≡ bounds_in number a → spans ≡ bounds_in number r)

-- r has a function's answers to the values of the trees a and b in the scenarios of both spaces
pub record IsJoinedIn {T U V : Type 0} (answers : T → U → V → Type 0) (spaces : SpacePair) (a : TreeNode T)
    (b : TreeNode U) (r : TreeNode V) : Type 0 where
  -- the answers are right in the scenarios that lie in both spaces
  pub made : IsJoinIn answers (IsInBothSpaces spaces) a b r
  -- r fits the space asked for, whatever is walked
  pub fit : IsFit spaces.asked r
  -- a test that the variables of all forks of a and b pass is passed by those of r
  pub pass : (test : ℕ → Bool) → DoForksPass test a → DoForksPass test b → DoForksPass test r

-- in the scenarios of both spaces r has a function's answers to the values of a and b if the chooser is true there, and
-- otherwise the value `none`
pub record IsJoinedWhere {T U V : Type 0} (answers : T → U → V → Type 0) (none : V) (spaces : SpacePair)
    (chooser : TreeNode Bool) (a : TreeNode T) (b : TreeNode U) (r : TreeNode V) : Type 0 where
  -- the values are right in the scenarios that lie in both spaces
  pub made : IsJoinWhereOf answers none (IsInBothSpaces spaces) chooser a b r
  -- r fits the space asked for, whatever is walked
  pub fit : IsFit spaces.asked r
  -- a test that the variables of all forks of the three trees pass is passed by those of r
  pub pass : (test : ℕ → Bool) → DoForksPass test chooser → DoForksPass test a → DoForksPass test b → DoForksPass test r
