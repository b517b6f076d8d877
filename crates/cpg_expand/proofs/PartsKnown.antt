-- The trees of a guard's parts that are kept on a descent: they stay at their places, are made, and fit their guards.
use Rattle.std.proofs.Common.{ℕ, ◌≡◌, List, [], ◌∷◌, ◌++◌, get_or, arith, sym, ap, ◌∙◌, subst, rules}
use Rattle.std.specs.List.{HoldsAt}
use Rattle.std.proofs.lemmas.List.{length-append, get_or_append_left}
use Rattle.std.proofs.lemmas.List.Elements.{All-append, All-get_or}
use Rattle.std.proofs.Math.Seq.{get_or-append_seam}
use Rattle.cpg_order.specs.Guard.{Guard, Leaf, Test}
use Rattle.cpg_tree.specs.Tree.{TreeState}
use Rattle.cpg_expand.specs.Descent.{ArePlacesKept, AreKnown, AreLeaves, IsGuardAdded, IsAt, IsFound, IsThere, IsTreeOf}
use Rattle.cpg_expand.specs.Guarded.{IsByBelow, LeadsBelow}
use Rattle.cpg_expand.specs.declared.descent.Source.{Source}
use Rattle.cpg_expand.specs.declared.descent.Source.TheVariants.{At, Alone}
use Rattle.cpg_expand.specs.declared.descent.KnownGuard.{KnownGuard}

-- the fact that holds of every activation holds of all leaves of a guard
pub any_leaves : (guard : Guard) → AreLeaves (λ a. Unit {0}) guard
-- by induction on the guard
any_leaves (Leaf a) = tt
any_leaves (Test c off on) = (any_leaves off, any_leaves on)

-- if a guard leads to inputs below n, each of its leaves does
pub leads_leaves : (n : ℕ) (guard : Guard) → LeadsBelow n guard → AreLeaves (λ a. IsByBelow n a) guard
-- by induction on the guard
leads_leaves n (Leaf a) leads = leads
leads_leaves n (Test c off on) leads = (leads_leaves n off leads.0, leads_leaves n on leads.1)

-- `T` is the type of the trees' values
module _ {T : Type 0} where
  -- if `next` has the guards of `old` at their places, and `new` those of `next`, then `new` has those of `old`
  pub kept_still : (old next new : List (KnownGuard T)) → ArePlacesKept old next → ArePlacesKept next new →
      ArePlacesKept old new
  kept_still old next new kept kept_too i g at = kept_too i g (kept i g at)

  -- if `new` is `old` with one more guard at its end, it has the guards of `old` at their places
  pub kept_by : (old new : List (KnownGuard T)) (k : KnownGuard T) → new ≡ old ++ (k ∷ []) → ArePlacesKept old new
  kept_by old new k pushed i g at = subst (λ (xs : List (KnownGuard T)). IsAt xs i g) (sym pushed) (
    omega (arith, at.0, length-append old (k ∷ [])),
    λ d. ap (λ (x : KnownGuard T). x.guard.now) (get_or_append_left old (k ∷ []) d i at.0) ∙ at.1 d,
  )

  -- `made` says what holds of each tree, `fits` how a tree is related to its guard
  module _ (made : TreeState T → Type 0) (fits : Guard → TreeState T → Type 0) where
    -- a source that is right for a guard is within the list, or a tree of its own
    pub found_there : (known : List (KnownGuard T)) (g : Guard) (found : Source T) → IsFound made fits known g found →
        IsThere known found
    found_there known g (At i) is_found = is_found.0
    found_there known g (Alone t) is_found = tt

    -- a source stays right if the list keeps its guards at their places
    pub found_still : (old new : List (KnownGuard T)) (g : Guard) (found : Source T) → ArePlacesKept old new →
        IsFound made fits old g found →
        IsFound made fits new g found
    found_still old new g (At i) kept is_found = kept i g is_found
    found_still old new g (Alone t) kept is_found = is_found

    -- the tree of a guard that is kept at a place is made and fits the guard
    known_at : (known : List (KnownGuard T)) (i : ℕ) (g : Guard) (r : TreeState T) → AreKnown made fits known →
        IsAt known i g →
        HoldsAt (λ (k : KnownGuard T). r ≡ k.tree) known i →
        (d : KnownGuard T) → made r × fits g r
    known_at known i g r all at is d =
        let facts = All-get_or (λ (k : KnownGuard T). made k.tree × fits k.guard.now k.tree) known i d at.0 all in (
          subst made (sym (is d)) facts.0,
          subst (λ (h : Guard). fits h r) (at.1 d) (subst (fits (get_or known i d).guard.now) (sym (is d)) facts.1),
        )

    -- the tree of a source that is right for a guard is made and fits it
    pub found_has_value : (known : List (KnownGuard T)) (g : Guard) (found : Source T) (r : TreeState T) →
        AreKnown made fits known → IsFound made fits known g found →
        IsTreeOf known found r
        → made r ×
        fits g r
    found_has_value [] g (At i) r all is_found is = absurd (omega (arith, is_found.0))
    found_has_value (k ∷ known) g (At i) r all is_found is = known_at (k ∷ known) i g r all is_found is k
    found_has_value known g (Alone t) r all is_found is =
        (subst made (sym is) is_found.0, subst (fits g) (sym is) is_found.1)

    -- a list of one tree that is made and fits its guard has only such trees
    one_known : (k : KnownGuard T) → made k.tree → fits k.guard.now k.tree → AreKnown made fits (k ∷ [])
    one_known k m t = search rules

    -- if the tree that is added fits its guard, all trees that are kept still do
    pub added_known : (old new : List (KnownGuard T)) (g : Guard) (tree : TreeState T) (found : Source T) →
        AreKnown made fits old → made tree → fits g tree →
        IsGuardAdded old new g tree found →
        AreKnown made fits new
    -- by where it is put: a new place holds the tree, with a guard equal to the given one; kept alone, it changes no
    -- place
    added_known old new g tree (At i) all is_made fits_it added =
        subst (AreKnown made fits) (sym added.2)
        (All-append (λ (x : KnownGuard T). made x.tree × fits x.guard.now x.tree) old (added.1 ∷ []) all
        (one_known added.1 (subst made (sym added.4) is_made)
        (subst (fits added.1.guard.now) (sym added.4) (subst (λ (x : Guard). fits x tree) (sym added.3) fits_it))))
    added_known old new g tree (Alone t) all is_made is added = subst (AreKnown made fits) (sym added.0) all

    -- adding a guard with its tree keeps all guards before it at their places
    pub added_kept : (old new : List (KnownGuard T)) (g : Guard) (tree : TreeState T) (found : Source T) →
        IsGuardAdded old new g tree found → ArePlacesKept old new
    added_kept old new g tree (At i) added = kept_by old new added.1 added.2
    added_kept old new g tree (Alone t) added =
        subst (λ (xs : List (KnownGuard T)). ArePlacesKept old xs) (sym added.0) (λ i g at. at)

    -- the source that a tree is added at is right for its guard
    pub added_found : (old new : List (KnownGuard T)) (g : Guard) (tree : TreeState T) (found : Source T) → made tree →
        fits g tree → IsGuardAdded old new g tree found →
        IsFound made fits new g found
    -- at a place, that is the new one behind the old ones; alone, it is the tree itself, which is made and fits
    added_found old new g tree (At i) is_made fits_it added =
        subst (λ (xs : List (KnownGuard T)). IsAt xs i g) (sym added.2)
        (subst (λ (n : ℕ). IsAt (old ++ (added.1 ∷ [])) n g) (sym added.0) (
          omega (arith, length-append old (added.1 ∷ [])),
          λ d. ap (λ (x : KnownGuard T). x.guard.now) (get_or-append_seam old added.1 [] d) ∙ added.3,
        ))
    added_found old new g tree (Alone t) is_made is added =
        (subst made (sym added.1) is_made, subst (fits g) (sym added.1) is)

    -- given: a tree that was found before more trees were added
    module _ (known later slice : List (KnownGuard T)) (kept : ArePlacesKept known later) (is : slice ≡ later)
        (g : Guard) (found : Source T) (is_found : IsFound made fits known g found) where
      -- the tree is still found in the list with more trees
      still : IsFound made fits slice g found
      still = subst (λ (xs : List (KnownGuard T)). IsFound made fits xs g found) (sym is)
          (found_still known later g found kept is_found)

      -- the source is within the longer list
      pub still_there : IsThere slice found
      still_there = found_there slice g found still

      -- the tree that it names there is made and fits the guard
      pub still_has_value : AreKnown made fits later → (r : TreeState T) → IsTreeOf slice found r → made r × fits g r
      still_has_value all r of = found_has_value slice g found r (subst (AreKnown made fits) (sym is) all) still of
