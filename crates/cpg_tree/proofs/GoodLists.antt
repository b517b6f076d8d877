-- The paths of a tree's list.
use Rattle.std.proofs.Common.{ℕ, ◌≡◌, Bool, true, false, List, All, sym, ap, subst}
use Rattle.std.specs.Bool.{OnTrue}
use Rattle.cpg_tree.specs.TreeNode.{TreeNode, Leaf}
use Rattle.cpg_tree.specs.declared.item.TreeItem.{TreeItem}
use Rattle.cpg_tree.specs.Flat.{flat}
use Rattle.cpg_tree.specs.Paths.{paths_of}
use Rattle.cpg_tree.specs.ReadBack.{IsGoodList, paths_in}
use Rattle.cpg_tree.specs.Tree.{Path, TreeState, HasOnePathEach, IsConstant, IsTidyPath}
use Rattle.cpg_tree.proofs.Flats.{paths_in-flat}
use Rattle.cpg_tree.proofs.PathLaws.{one_path}
use Rattle.cpg_tree.proofs.Publics.{state}
use Rattle.cpg_tree.proofs.TidyPaths.{tidy_all}

-- what callers see of a tree, given the list of its items
abbrev pub state_in : {T : Type 0} → ℕ → List (TreeItem T) → TreeState T
state_in k items = record { faults = k; paths = paths_in k items }

-- given: a number of faults k, and a list of items
module _ {T : Type 0} (k : ℕ) (items : List (TreeItem T)) where
  -- the state that a list gives back is that of its tree
  pub state_is : (n : TreeNode T) → items ≡ flat n → state_in k items ≡ state k n
  state_is n are = ap (λ (ps : List (Path T)). record { faults = k; paths = ps }) (paths_in-flat k items n are)

  -- in a good list each scenario of at most k faults is on one path
  pub one_each : IsGoodList k items → HasOnePathEach k (paths_in k items)
  one_each good =
      subst (HasOnePathEach k) (sym (paths_in-flat k items good.0 good.1)) (λ s few. one_path k good.0 good.2 s few)

  -- each path of a good list is tidy
  pub all_tidy : IsGoodList k items → All (IsTidyPath k) (paths_in k items)
  all_tidy good = subst (λ (ps : List (Path T)). All (IsTidyPath k) ps) (sym (paths_in-flat k items good.0 good.1))
      (tidy_all k good.0 good.2)

-- a list that is the value true is that of a tree that is true everywhere
pub true_value : (b : Bool) (t : TreeState Bool) (items : List (TreeItem Bool)) → items ≡ flat (Leaf b) →
    ((n : TreeNode Bool) → items ≡ flat n → t.paths ≡ paths_of t.faults n) → OnTrue b
    (IsConstant true t.faults t)
true_value true t items leaf paths =
    ap (λ (ps : List (Path Bool)). record { faults = t.faults; paths = ps }) (paths (Leaf true) leaf)
true_value false t items leaf paths = tt
