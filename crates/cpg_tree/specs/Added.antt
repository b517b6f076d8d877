-- What the functions of this crate add to a list of items: the list of a tree, and what is known of that tree.
use Rattle.std.specs.Prelude.{ℕ, ◌+◌, ◌≡◌, ◌<◌, Bool, true, List, [], ◌∷◌, ◌++◌, length}
use Rattle.cpg_tree.specs.TreeNode.{TreeNode}
use Rattle.cpg_tree.specs.Space.{Space, is_open_below, is_open_above, below_cut, above_cut}
use Rattle.cpg_tree.specs.Decision.{DoForksPass, IsFit}
use Rattle.cpg_tree.specs.Results.{IsForkOf, IsMapOf, IsTreeWithin, IsFillOf, IsJoinOf, IsPickOf}
use Rattle.cpg_tree.specs.declared.item.TreeItem.{TreeItem}
use Rattle.cpg_tree.specs.declared.item.TreeItem.TheVariants.{Cut}
use Rattle.cpg_tree.specs.Flat.{flat}

-- the new list is the old one followed by the list of some tree, and `fact` holds of this tree
abbrev pub AddsTree : {T : Type 0} → (TreeNode T → Type 0) → List (TreeItem T) → List (TreeItem T) → Type 0
AddsTree {T} fact old new = (r : TreeNode T) × (new ≡ old ++ flat r) × fact r

-- r does what a fork on v at this cut with these two sides does; it may be simpler than the fork itself
pub record IsForked {T : Type 0} (v cut : ℕ) (below above r : TreeNode T) : Type 0 where
  -- it has the values of both sides, and no narrower ranges
  pub made : IsForkOf v cut below above r
  -- r fits each space that is open on both sides of the cut, if each side fits its part of the space
  pub fit : (space : Space) → is_open_below space v cut ≡ true → is_open_above space v cut ≡ true →
      IsFit (below_cut space v cut) below → IsFit (above_cut space v cut) above → IsFit space r
  -- if v and the variables of all forks of the sides pass a test, those of r's forks do
  pub pass : (test : ℕ → Bool) → test v ≡ true → DoForksPass test below → DoForksPass test above → DoForksPass test r

-- the list ends in the lists of two trees; `front` is what comes before them
pub record IsSplit {T : Type 0} (start middle : ℕ) (items front : List (TreeItem T))
    (below above : TreeNode T) : Type 0 where
  pub is : items ≡ front ++ flat below ++ flat above
  -- `start` is where the first tree begins, and `middle` where the second does
  pub first : start ≡ length front
  pub second : middle ≡ length front + length (flat below)

-- If the old list ends in the lists of two trees, of which the first begins at `start` and the second at `middle`, then
-- the new list has the list of their fork in place of them.
abbrev pub ForksEnd : {T : Type 0} → ℕ → ℕ → ℕ → ℕ → List (TreeItem T) → List (TreeItem T) → Type 0
ForksEnd {T} start middle v cut old new =
    (front : List (TreeItem T)) (below above : TreeNode T) → IsSplit start middle old front below above →
    AddsTree (IsForked v cut below above) front new

-- The list `above` is that of a fork on v at a greater cut whose side below has the same list as `below`. So the fork
-- at `cut` makes no difference.
-- Here `far` is the greater cut, and `rest` the list of the side above it.
abbrev pub RepeatsBelow : {T : Type 0} → List (TreeItem T) → List (TreeItem T) → ℕ → ℕ → Type 0
RepeatsBelow {T} below above v cut =
    (far : ℕ) × (rest : List (TreeItem T)) × (cut < far) × (above ≡ below ++ rest ++ (Cut v far (length below) ∷ []))

-- r has a function's answers to the values of the tree a; `answers x z` says that z is an answer to x
pub record IsMapped {T U : Type 0} (answers : T → U → Type 0) (a : TreeNode T) (r : TreeNode U) : Type 0 where
  -- the value in each scenario is an answer to that of a, by a range of each variable that is no narrower
  pub made : IsMapOf answers a r
  -- r fits each space that a fits
  pub fit : (space : Space) → IsFit space a → IsFit space r
  -- a test that the variables of all forks of a pass is passed by those of r
  pub pass : (test : ℕ → Bool) → DoForksPass test a → DoForksPass test r

-- r is the part of the tree a that the scenarios of a space come to
pub record IsPartInSpace {T : Type 0} (space : Space) (a r : TreeNode T) : Type 0 where
  -- in each scenario of the space r has the value of a
  pub same : IsTreeWithin space a r
  -- a test that the variables of all forks of a pass is passed by those of r
  pub pass : (test : ℕ → Bool) → DoForksPass test a → DoForksPass test r

-- `part` is the list of the part of the tree a that the scenarios of a space come to
abbrev pub IsPartList : {T : Type 0} → Space → TreeNode T → List (TreeItem T) → Type 0
IsPartList {T} space a part = (r : TreeNode T) × (part ≡ flat r) × IsPartInSpace space a r

-- in the scenarios of a space r has the values of the tree a, and each of its forks has some of them on both sides
pub record IsRestricted {T : Type 0} (space : Space) (a r : TreeNode T) : Type 0 where
  -- in each scenario of the space r has the value of a
  pub made : IsTreeWithin space a r
  -- each fork of r has scenarios of the space on both sides
  pub fit : IsFit space r
  -- a test that the variables of all forks of a pass is passed by those of r
  pub pass : (test : ℕ → Bool) → DoForksPass test a → DoForksPass test r

-- in the scenarios of a space r has a function's answers to the value x and the values of the tree b
pub record IsFilled {T U V : Type 0} (answers : T → U → V → Type 0) (space : Space) (x : T) (b : TreeNode U)
    (r : TreeNode V) : Type 0 where
  -- the value in each scenario of the space is an answer to x and the value of b there
  pub made : IsFillOf answers space x b r
  -- each fork of r has scenarios of the space on both sides
  pub fit : IsFit space r
  -- a test that the variables of all forks of b pass is passed by those of r
  pub pass : (test : ℕ → Bool) → DoForksPass test b → DoForksPass test r

-- in the scenarios of a space r has a function's answers to the values of the trees a and b
pub record IsJoined {T U V : Type 0} (answers : T → U → V → Type 0) (space : Space) (a : TreeNode T) (b : TreeNode U)
    (r : TreeNode V) : Type 0 where
  -- the value in each scenario of the space is an answer to those of a and b there
  pub made : IsJoinOf answers space a b r
  -- each fork of r has scenarios of the space on both sides
  pub fit : IsFit space r
  -- a test that the variables of all forks of a and b pass is passed by those of r
  pub pass : (test : ℕ → Bool) → DoForksPass test a → DoForksPass test b → DoForksPass test r

-- in the scenarios of a space r has the value of `on` if the chooser is true there, and otherwise that of `off`
pub record IsPicked {T : Type 0} (space : Space) (chooser : TreeNode Bool) (on off r : TreeNode T) : Type 0 where
  -- the value in each scenario of the space is that of the tree picked there
  pub made : IsPickOf space chooser on off r
  -- each fork of r has scenarios of the space on both sides
  pub fit : IsFit space r
  -- a test that the variables of all forks of the three trees pass is passed by those of r
  pub pass : (test : ℕ → Bool) → DoForksPass test chooser → DoForksPass test on → DoForksPass test off →
      DoForksPass test r
