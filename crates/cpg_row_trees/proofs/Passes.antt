-- What passes on the sides of a fork passes on the fork.
use Rattle.std.proofs.Common.{ℕ, ◌≤◌, ◌<◌, ◌≡◌, sym, subst, inl, inr}
use Rattle.std.proofs.lemmas.Bool.{cases_lt}
use Rattle.cpg_base.specs.Scenario.{Scenario, number_of}
use Rattle.cpg_tree.specs.TreeNode.{TreeNode, Leaf, Fork}
use Rattle.cpg_tree.specs.declared.space.Space.{Space}
use Rattle.cpg_tree.specs.Space.{IsInSpace}
use Rattle.cpg_tree.specs.Decision.{value_at}
use Rattle.cpg_row_trees.specs.Places.{HoldsInSpace}
use Rattle.cpg_tree.proofs.Forks.{value_below, value_above}

-- what passes at a value passes on its leaf
pub holds_leaf : {T : Type 0} (fact : T → Scenario → Type 0) (space : Space) (x : T) (n : TreeNode T) → n ≡ Leaf x →
    ((s : Scenario) → IsInSpace space s → fact x s) →
    HoldsInSpace fact space n
holds_leaf {T} fact space x n is all = subst (λ (m : TreeNode T). HoldsInSpace fact space m) (sym is) all

-- given: a fork, and a fact of the values that scenarios of a space come to
module _ {T : Type 0} (fact : T → Scenario → Type 0) (space : Space) (v cut : ℕ) (below above n : TreeNode T)
    (is : n ≡ Fork v cut below above) where
  -- what holds of the value of a side holds of the fork's
  from_side : (s : Scenario) (x y : T) → y ≡ x → fact x s → fact y s
  from_side s x y same h = subst (λ (z : T). fact z s) (sym same) h

  -- if no scenario of the space is below the cut, what holds above it holds on the fork
  pub holds_above : HoldsInSpace fact space above → ((s : Scenario) → IsInSpace space s → cut < number_of s v) →
      HoldsInSpace fact space n
  holds_above all only = subst (λ (m : TreeNode T). HoldsInSpace fact space m) (sym is)
      (λ s lies. from_side s (value_at above s) (value_at (Fork v cut below above) s)
      (value_above v cut below above s (only s lies)) (all s lies))

  -- if no scenario of the space is above the cut, what holds below it holds on the fork
  pub holds_below : HoldsInSpace fact space below → ((s : Scenario) → IsInSpace space s → number_of s v ≤ cut) →
      HoldsInSpace fact space n
  holds_below all only = subst (λ (m : TreeNode T). HoldsInSpace fact space m) (sym is)
      (λ s lies. from_side s (value_at below s) (value_at (Fork v cut below above) s)
      (value_below v cut below above s (only s lies)) (all s lies))

  -- what holds on both sides of the cut holds on the fork
  pub holds_fork : ((s : Scenario) → IsInSpace space s → number_of s v ≤ cut → fact (value_at below s) s) →
      ((s : Scenario) → IsInSpace space s → cut < number_of s v → fact (value_at above s) s) →
      HoldsInSpace fact space n
  -- each scenario finds the value of the side of the cut to which it goes
  holds_fork of_below of_above =
      subst (λ (m : TreeNode T). HoldsInSpace fact space m) (sym is) (λ s lies. elim (cases_lt cut (number_of s v)) [
        | inl less ↦
            from_side s (value_at above s) (value_at (Fork v cut below above) s) (value_above v cut below above s less)
            (of_above s lies less)
        | inr h ↦
            from_side s (value_at below s) (value_at (Fork v cut below above) s) (value_below v cut below above s h)
            (of_below s lies h)
      ])

-- what holds beside a tree holds beside one that has the same values in the space
pub holds_beside : {T U : Type 0} (fact : T → U → Scenario → Type 0) (space : Space) (first : TreeNode T)
    (part second : TreeNode U) →
    ((s : Scenario) → IsInSpace space s → value_at part s ≡ value_at second s) →
    HoldsInSpace (λ x s. fact x (value_at part s) s) space first →
    HoldsInSpace (λ x s. fact x (value_at second s) s) space first
holds_beside fact space first part second same all s lies =
    subst (λ y. fact (value_at first s) y s) (same s lies) (all s lies)
