-- Lists of trees that are made one tree at a time.
use Rattle.std.proofs.Common.{ℕ, ◌+◌, ◌≡◌, List, [], ◌∷◌, ◌++◌, length, All, arith, sym, ap, subst, length-append}
use Rattle.std.proofs.lemmas.List.Elements.{All-push}
use Rattle.cpg_base.specs.Graph.{Graph}
use Rattle.cpg_tree.specs.Tree.{TreeState, IsConstant}
use Rattle.cpg_tree.specs.GraphTrees.{IsTree}
use Rattle.cpg_expand.specs.Forest.{IsWait}
use Rattle.cpg_expand.specs.Grown.{IsReadyFirst}
use Rattle.cpg_expand.specs.declared.forest.Ready.{Ready}
use Rattle.cpg_expand.specs.declared.forest.Ready.TheVariants.{At}

-- a tree that is added to a list of n trees makes a list of n + 1
pub trees_pushed : {T : Type 0} (g : Graph) (xs pushed : List (TreeState T)) (t : TreeState T) (n : ℕ) →
    (length xs ≡ n) × All (IsTree g) xs → IsTree g t →
    pushed ≡ xs ++ t ∷ [] →
    (length pushed ≡ n + 1) × All (IsTree g) pushed
trees_pushed g xs pushed t n has is e = (
  (let long = length-append xs (t ∷ []) in let same = ap length e in let below = has.0 in omega arith),
  subst (All (IsTree g)) (sym e) (All-push (IsTree g) xs t has.1 is),
)

-- a constant that is added to constants leaves a list of constants
pub constants_pushed : {T : Type 0} (x : T) (k : ℕ) (xs pushed : List (TreeState T)) (t : TreeState T) →
    All (IsConstant x k) xs → IsConstant x k t →
    pushed ≡ xs ++ t ∷ [] →
    All (IsConstant x k) pushed
constants_pushed x k xs pushed t h is e = subst (All (IsConstant x k)) (sym e) (All-push (IsConstant x k) xs t h is)

-- n nodes that are ready from time 0 on, and one more that is, are n + 1 such nodes
pub nodes_pushed : (g : Graph) (xs pushed : List Ready) (t : TreeState ℕ) (n : ℕ) →
    (length xs ≡ n) × All (IsWait g) xs × All (IsReadyFirst g.faults) xs → IsTree g t →
    IsConstant 0 g.faults t →
    pushed ≡ xs ++ At t ∷ [] →
    (length pushed ≡ n + 1) × All (IsWait g) pushed × All (IsReadyFirst g.faults) pushed
nodes_pushed g xs pushed t n has is zero is_pushed = (
  (let long = length-append xs (At t ∷ []) in let same = ap length is_pushed in let below = has.0 in omega arith),
  subst (All (IsWait g)) (sym is_pushed) (All-push (IsWait g) xs (At t) has.1 is),
  subst (All (IsReadyFirst g.faults)) (sym is_pushed) (All-push (IsReadyFirst g.faults) xs (At t) has.2 zero),
)
