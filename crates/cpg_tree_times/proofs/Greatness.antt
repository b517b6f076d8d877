-- If a tree is at least another everywhere, it is the greater of the two.
use Rattle.std.proofs.Common.{ℕ, ◌≤◌, ◌≡◌, max, inl, inr, arith, ap, subst}
use Rattle.std.proofs.lemmas.Bool.{cases_lt}
use Rattle.cpg_base.specs.Scenario.{Scenario, number_of}
use Rattle.cpg_tree.specs.TreeNode.{TreeNode, Leaf, Fork}
use Rattle.cpg_tree.specs.Space.{IsInSpace}
use Rattle.cpg_tree.specs.declared.space.Space.{Space}
use Rattle.cpg_tree.specs.Decision.{value_at}
use Rattle.cpg_tree.specs.Results.{IsFillOf, IsJoinOf}
use Rattle.cpg_tree_times.specs.Greater.{IsAtLeast, least_leaf, greatest_leaf}
use Rattle.cpg_tree.proofs.Forks.{value_below, value_above, made_weaker}

-- given: how the values of a tree are read as numbers
module _ {T : Type 0} (number : T → ℕ) where
  -- no scenario has a lesser number than the least leaf
  pub least_under : (a : TreeNode T) (s : Scenario) → least_leaf number a ≤ number (value_at a s)
  -- by induction on the tree: a leaf, then a fork by its two sides, and by whether `cut` is below `number_of s v`
  least_under (Leaf x) s = omega arith
  least_under (Fork v cut below above) s = elim (cases_lt cut (number_of s v)) [
    | inl less ↦ omega (arith, least_under above s, ap number (value_above v cut below above s less))
    | inr not_less ↦ omega (arith, least_under below s, ap number (value_below v cut below above s not_less))
  ]

  -- no scenario has a greater number than the greatest leaf
  pub most_over : (a : TreeNode T) (s : Scenario) → number (value_at a s) ≤ greatest_leaf number a
  -- by induction on the tree: a leaf, then a fork by its two sides, and by whether `cut` is below `number_of s v`
  most_over (Leaf x) s = omega arith
  most_over (Fork v cut below above) s = elim (cases_lt cut (number_of s v)) [
    | inl less ↦ omega (arith, most_over above s, ap number (value_above v cut below above s less))
    | inr not_less ↦ omega (arith, most_over below s, ap number (value_below v cut below above s not_less))
  ]

-- given: two trees, and a function of the greater of their numbers
module _ {T U V : Type 0} (number : T → ℕ) (other_number : U → ℕ) (makes : ℕ → V → Type 0) (space : Space)
    (a : TreeNode T) (b : TreeNode U) (r : TreeNode V) where
  -- if the first tree is at least the second everywhere, its numbers are the greater ones
  pub first_greater : IsAtLeast number other_number a b → IsFillOf (λ x y z. makes (max x (number y)) z) space 0 a r →
      IsJoinOf (λ x y z. makes (max (number x) (other_number y)) z) space a b r
  first_greater least made = made_weaker (IsInSpace space) _ _ _ _ _ _ r made
      (λ s z inside answered. subst (λ (n : ℕ). makes n z) (omega (arith, least s s)) answered)
      (λ s u inside. omega arith)
      (λ k s u inside. omega arith)

  -- if the second tree is at least the first everywhere, its numbers are the greater ones
  pub second_greater : IsAtLeast other_number number b a →
      IsFillOf (λ x y z. makes (max x (other_number y)) z) space 0 b r →
      IsJoinOf (λ x y z. makes (max (number x) (other_number y)) z) space a b r
  second_greater least made = made_weaker (IsInSpace space) _ _ _ _ _ _ r made
      (λ s z inside answered. subst (λ (n : ℕ). makes n z) (omega (arith, least s s)) answered)
      (λ s u inside. omega arith)
      (λ k s u inside. omega arith)

  -- if the first tree is one value, the answers made of that value and the second tree are those of both trees
  pub first_leaf : (x : T) (n : ℕ) → a ≡ Leaf x → n ≡ number x →
      IsFillOf (λ x y z. makes (max x (other_number y)) z) space n b r →
      IsJoinOf (λ x y z. makes (max (number x) (other_number y)) z) space a b r
  first_leaf x n is at made = made_weaker (IsInSpace space) _ _ _ _ _ _ r made
      (λ s z inside answered. subst (λ (m : ℕ). makes m z)
      (omega (arith, at, ap (λ (c : TreeNode T). number (value_at c s)) is)) answered)
      (λ s u inside. omega arith) (λ k s u inside. omega arith)
