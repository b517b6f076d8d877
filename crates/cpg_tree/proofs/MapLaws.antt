-- What the answers of a function make of a tree.
use Rattle.std.proofs.Common.{ℕ, ◌+◌, ◌<◌, ◌≤◌, ◌≡◌, List, [], ◌∷◌, ◌++◌, length, Bool, true, arith, refl, sym, ap, ◌∙◌}
use Rattle.std.proofs.Common.{subst}
use Rattle.std.specs.Prelude.{⊤}
use Rattle.std.proofs.lemmas.List.{length-append}
use Rattle.cpg_tree.specs.declared.space.Space.{Space}
use Rattle.cpg_tree.specs.TreeNode.{TreeNode, Leaf, Fork}
use Rattle.cpg_tree.specs.declared.item.TreeItem.{TreeItem}
use Rattle.cpg_tree.specs.declared.item.TreeItem.TheVariants.{Value, Cut}
use Rattle.cpg_tree.specs.Decision.{IsFit, DoForksPass}
use Rattle.cpg_tree.specs.Results.{IsMapOf}
use Rattle.cpg_tree.specs.Flat.{flat}
use Rattle.cpg_tree.specs.Added.{AddsTree, ForksEnd, IsForked, IsMapped}
use Rattle.cpg_tree.proofs.Forks.{one_fork_of, passes_parts, fit_parts}
use Rattle.cpg_tree.proofs.Flats.{flat-same}

-- given: what answers a value
module _ {T U : Type 0} (answers : T → U → Type 0) where
  -- a leaf is mapped to the leaf of its answer
  mapped_leaf : (x : T) (y : U) → answers x y → IsMapped answers (Leaf x) (Leaf y)
  mapped_leaf x y answered = record {
    made = record {
      value = λ s inside. answered;
      lows = λ s v inside. omega arith;
      highs = λ k s v inside. omega arith;
    };
    fit = λ space fit. fit;
    pass = λ test pass. pass;
  }

  -- a fork of the answers of both sides has the answers of the fork
  mapped_fork : (v cut : ℕ) (x y : TreeNode T) (lo hi r : TreeNode U) → IsMapped answers x lo → IsMapped answers y hi →
      IsForked v cut lo hi r →
      IsMapped answers (Fork v cut x y) r
  mapped_fork v cut x y lo hi r one two fork = record {
    made = one_fork_of (λ s x z. answers x z) (λ s. ⊤) v cut x y (Fork v cut x y) refl r (λ s. ⊤)
        (λ s. ⊤) lo hi one.made two.made fork.made (λ s inside at_most. inside) (λ s inside past_cut. inside);
    fit = λ space fit. fork.fit space fit.1 fit.2 (one.fit _ fit.3) (two.fit _ fit.4);
    pass = λ test pass. fork.pass test pass.0 (one.pass test pass.1) (two.pass test pass.2);
  }

  -- if the tree is one value, its answer is added
  pub maps_leaf : (x : T) (y : U) (n : TreeNode T) (items : List (TreeItem T)) (old new : List (TreeItem U)) →
      answers x y → items ≡ flat (Leaf x) → items ≡ flat n → new ≡ old ++
      (Value y ∷ []) → AddsTree (IsMapped answers n) old new
  maps_leaf x y n items old new answered is are added = (
    Leaf y,
    added,
    subst (λ (m : TreeNode T). IsMapped answers m (Leaf y)) (flat-same (Leaf x) n (sym is ∙ are))
        (mapped_leaf x y answered),
  )

  -- the answers of both sides are added, and then a fork is made of them
  pub maps_fork : (v cut start middle : ℕ) (x y n : TreeNode T) (items : List (TreeItem T))
      (old low high new : List (TreeItem U)) → items ≡ flat (Fork v cut x y) →
      items ≡ flat n →
      AddsTree (IsMapped answers x) old low → AddsTree (IsMapped answers y) low high → start ≡ length old →
      middle ≡ length low →
      ForksEnd start middle v cut high new → AddsTree (IsMapped answers n) old new
  -- the list ends in the lists of the answers of both sides, so the fork made of them has the answers of the fork
  maps_fork v cut start middle x y n items old low high new is are one two first second forks =
      let fork = forks old one.0 two.0 (record {
        is = two.1 ∙ ap (λ (xs : List (TreeItem U)). xs ++ flat two.0) one.1;
        first = first;
        second = second ∙ ap length one.1 ∙ length-append old (flat one.0);
      }) in (
        fork.0,
        fork.1,
        subst (λ (m : TreeNode T). IsMapped answers m fork.0) (flat-same (Fork v cut x y) n (sym is ∙ are))
            (mapped_fork v cut x y one.0 two.0 fork.0 one.2 two.2 fork.2),
      )
