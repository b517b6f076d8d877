-- What a scenario finds in two spaces at once, and what is made there.
use Rattle.std.proofs.Common.{ℕ, ◌+◌, ◌<◌, ◌≤◌, ◌≡◌, arith, sym, ap, ◌∙◌, subst}
use Rattle.cpg_base.specs.Scenario.{Scenario, number_of}
use Rattle.cpg_tree.specs.TreeNode.{TreeNode, Fork}
use Rattle.cpg_tree.specs.Decision.{value_at, low_at, high_at}
use Rattle.cpg_tree.specs.Space.{IsInSpace}
use Rattle.cpg_tree.specs.Results.{IsJoinIn, IsJoinOf, IsTreeWithin}
use Rattle.cpg_tree.proofs.Forks.{made_narrower, made_weaker, two_above_of, two_below_of}
use Rattle.cpg_tree_times.specs.Asked.{SpacePair, IsInner, IsInBothSpaces, with_highs}
use Rattle.cpg_tree_times.specs.declared.asked.Highs.{Highs}

-- answers made in the space that is asked for are made in both spaces
pub made_in_both : {T U V : Type 0} (answers : T → U → V → Type 0) (spaces : SpacePair) (a : TreeNode T)
    (b : TreeNode U) (r : TreeNode V) →
    IsJoinOf answers spaces.asked a b r →
    IsJoinIn answers (IsInBothSpaces spaces) a b r
made_in_both answers spaces a b r made =
    made_narrower (IsInSpace spaces.asked) (IsInBothSpaces spaces) _ _ _ r made (λ s inside. inside.0)

-- answers made with the part of a tree that the space walked comes to are made with the tree
pub both_whole : {T U V : Type 0} (answers : T → U → V → Type 0) (spaces : SpacePair) (a : TreeNode T)
    (b part : TreeNode U) (r : TreeNode V) →
    IsTreeWithin spaces.walked b part →
    IsJoinIn answers (IsInBothSpaces spaces) a part r → IsJoinIn answers (IsInBothSpaces spaces) a b r
both_whole answers spaces a b part r same made = made_weaker (IsInBothSpaces spaces) _ _ _ _ _ _ r made
    (λ s z inside has_fact. subst (λ y. answers (value_at a s) y z) (same.value s inside.1) has_fact)
    (λ s u inside. omega (arith, same.lows s u inside.1)) (λ k s u inside. omega (arith, same.highs k s u inside.1))

-- ---- two spaces, put back above a cut

-- given: two spaces whose highs were with_highs, and that get their highs back
module _ (spaces shut inner opened : SpacePair) (v : ℕ) (highs : Highs) (back : with_highs shut v highs ≡ spaces)
    (same : inner ≡ shut) (put : opened ≡ with_highs inner v highs) where
  -- then they are the two spaces from before
  pub both_opened : opened ≡ spaces
  both_opened = put ∙ ap (λ (r : SpacePair). with_highs r v highs) same ∙ back

  -- a scenario above the cut lies in the spaces that are closed below it
  pub both_reopened : (upper : SpacePair) (cut : ℕ) →
      ((s : Scenario) → IsInBothSpaces opened s → cut < number_of s v → IsInBothSpaces upper s) → (s : Scenario) →
      IsInBothSpaces spaces s
      → cut < number_of s v →
      IsInBothSpaces upper s
  both_reopened upper cut lies_upper s lies above =
      lies_upper s (subst (λ r. IsInBothSpaces r s) (sym both_opened) lies) above

-- ---- a fork at which all scenarios of two spaces go one way

-- given: a fork, and the part of another tree that the space walked comes to
module _ {T U V : Type 0} (answers : T → U → V → Type 0) (spaces inner : SpacePair) (v cut : ℕ)
    (below above n : TreeNode T) (is : n ≡ Fork v cut below above)
    (other part : TreeNode U) (same : IsTreeWithin spaces.walked other part) (r : TreeNode V) where
  -- answers made in the spaces left, with the part of the other tree that the space walked comes to, are answers of
  -- both trees
  pub made_all_below : IsInner spaces (λ s. number_of s v ≤ cut) inner →
      IsJoinIn answers (IsInBothSpaces inner) below part r →
      IsJoinIn answers (IsInBothSpaces spaces) n other r
  made_all_below way made = both_whole answers spaces n other part r same
      (two_below_of (λ s x z. answers x (value_at part s) z) (λ s x u. low_at part s u) (λ k s x u. high_at k part s u)
      (IsInBothSpaces spaces) v cut below above n is r
      (made_narrower (IsInBothSpaces inner) (IsInBothSpaces spaces) _ _ _ r made way.lies) way.goes)

  -- a join that is made of the side above, in the spaces of both, is made of the fork if only scenarios above count
  pub made_all_above : IsInner spaces (λ s. cut < number_of s v) inner →
      IsJoinIn answers (IsInBothSpaces inner) above part r →
      IsJoinIn answers (IsInBothSpaces spaces) n other r
  made_all_above way made = both_whole answers spaces n other part r same
      (two_above_of (λ s x z. answers x (value_at part s) z) (λ s x u. low_at part s u) (λ k s x u. high_at k part s u)
      (IsInBothSpaces spaces) v cut below above n is r
      (made_narrower (IsInBothSpaces inner) (IsInBothSpaces spaces) _ _ _ r made way.lies) way.goes)
