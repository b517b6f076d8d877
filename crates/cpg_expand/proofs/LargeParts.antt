-- If a tree of a part of a guard, or one with some of the inputs, has too many leaves, that is a fault of the whole.
use Rattle.std.proofs.Common.{ℕ, ◌≡◌, false, List, ◌∷◌, Option, sym, subst, inl, inr}
use Rattle.cpg_base.specs.Graph.{Graph, is_message}
use Rattle.cpg_base.specs.declared.activation.Activation.{Activation}
use Rattle.cpg_order.specs.Guard.{Guard, Leaf, Test}
use Rattle.cpg_run.specs.declared.built.BuildFault.{BuildFault}
use Rattle.cpg_tree.specs.Tree.{TreeState}
use Rattle.cpg_tree.specs.Read.{later_by}
use Rattle.cpg_expand.specs.Forest.{ForestState, input_delay, input_tree}
use Rattle.cpg_expand.specs.Large.{IsLarge, IsLargeDown, IsLargeWith, ShowsLarge}
use Rattle.cpg_expand.specs.Later.{IsLatest}
use Rattle.cpg_expand.proofs.LargeShown.{shown_as}

-- given: a guard, what makes a leaf of it too large, and a fault
module _ {T : Type 0} (large : Activation → Type 0) (fits : Guard → TreeState T → Type 0) (wide : Option ℕ)
    (fault : BuildFault) (guard : Guard) where
  -- the fault says that a tree on the way down a part of the guard is too large
  abbrev IsShown : Guard → Type 0
  IsShown part = ShowsLarge wide (IsLargeDown large fits part) fault

  -- a fault for a leaf that is too large is one for the guard
  pub large_leaf : (a : Activation) → guard ≡ Leaf a → ShowsLarge wide (large a) fault → IsShown guard
  large_leaf a is shown = subst IsShown (sym is) shown

  -- given: the guard tests a condition
  module _ (c : ℕ) (off on : Guard) (is : guard ≡ Test c off on) where
    -- a fault for the side of `false` is one for the guard
    pub large_off : IsShown off → IsShown guard
    large_off shown = subst IsShown (sym is)
        (shown_as (IsLargeDown large fits off) (IsLargeDown large fits (Test c off on)) wide fault (λ x. inl x) shown)

    -- a fault for the side of `true` is one for the guard
    pub large_on : IsShown on → IsShown guard
    large_on shown = subst IsShown (sym is)
        (shown_as (IsLargeDown large fits on) (IsLargeDown large fits (Test c off on)) wide fault
        (λ x. inr (inl x)) shown)

    -- a fault for the test's own tree is one for the guard
    pub large_part : (t : TreeState T) → fits (Test c off on) t → ShowsLarge wide (IsLarge t) fault → IsShown guard
    large_part t has_value shown = subst IsShown (sym is)
        (shown_as (IsLarge t) (IsLargeDown large fits (Test c off on)) wide fault (λ x. inr (inr (t, has_value, x)))
        shown)

-- given: a list of inputs with a first one, and a fault
-- `wait`: what the start waits for; `wide`, `fault`: the item that a fault would name, and the fault
-- `whole`, `e`, `es`, `is`: the inputs, with the first one apart
module _ (g : Graph) (f : ForestState) (wait : TreeState ℕ) (wide : Option ℕ) (fault : BuildFault) (whole : List ℕ)
    (e : ℕ) (es : List ℕ) (is : whole ≡ e ∷ es) where
  -- the fault says that a tree made with some of these inputs is too large
  abbrev IsShownWith : List ℕ → Type 0
  IsShownWith edges = ShowsLarge wide (IsLargeWith g f wait edges) fault

  -- an input of the node itself makes no tree, so a fault for the inputs behind it is one for all
  pub large_own : is_message g e ≡ false → IsShownWith es → IsShownWith whole
  large_own own shown = subst IsShownWith (sym is)
      (shown_as (IsLargeWith g f wait es) (IsLargeWith g f wait (e ∷ es)) wide fault (λ x. inl (own, x)) shown)

  -- given: the tree `both` of when the wait is over and input e is there too
  module _ (both : TreeState ℕ)
      (made : IsLatest g.faults wait (later_by (input_delay g e) (input_tree g f e)) both) where
    -- a fault for the tree `both` is one for all inputs
    pub large_both : ShowsLarge wide (IsLarge both) fault → IsShownWith whole
    large_both shown = subst IsShownWith (sym is)
        (shown_as (IsLarge both) (IsLargeWith g f wait (e ∷ es)) wide fault (λ x. inr (both, made, inl x)) shown)

    -- a fault for the inputs behind e, with `both` as the wait, is one for all inputs
    pub large_later : ShowsLarge wide (IsLargeWith g f both es) fault → IsShownWith whole
    large_later shown = subst IsShownWith (sym is)
        (shown_as (IsLargeWith g f both es) (IsLargeWith g f wait (e ∷ es)) wide fault (λ x. inr (both, made, inr x))
        shown)
