-- What the trees of the numbers of variables add to a list.
use Rattle.std.proofs.Common.{ℕ, ◌+◌, ◌≡◌, ◌<◌, ◌≤◌, List, [], ◌∷◌, ◌++◌, length, true, false, Bool, arith, ap, sym}
use Rattle.std.proofs.Common.{◌∙◌, subst}
use Rattle.cpg_tree.specs.TreeNode.{TreeNode, Leaf}
use Rattle.cpg_tree.specs.declared.item.TreeItem.{TreeItem}
use Rattle.cpg_tree.specs.declared.item.TreeItem.TheVariants.{Value}
use Rattle.cpg_tree.specs.Flat.{flat}
use Rattle.cpg_tree.specs.Added.{AddsTree, ForksEnd}
use Rattle.cpg_tree.specs.Variables.{IsCounted, IsValued}
use Rattle.cpg_tree.proofs.JoinLaws.{split_of}
use Rattle.cpg_tree.proofs.Numbers.{last_count, more_counts, counts_open_below, counts_open_above, counts_above}
use Rattle.cpg_tree.proofs.Numbers.{value_is, value_open_below, value_open_above}

-- the last count of a process is added as a leaf
pub adds_last : (p first k : ℕ) (old new : List (TreeItem ℕ)) → first ≡ k → new ≡ old ++ (Value k ∷ []) →
    AddsTree (IsCounted p first k) old new
adds_last p first k old new last added = (
  Leaf k,
  added,
  subst (λ (n : ℕ). IsCounted p n k (Leaf k)) (sym last)
      (record { counts = last_count p k; fit = λ space leaves. tt; pass = λ test on. tt }),
)

-- given: where the two sides begin in the list, and the variable v
module _ (start middle v : ℕ) where
  -- a count is added as a fork whose side above has the higher counts
  pub adds_counts : (first k : ℕ) (old low high new : List (TreeItem ℕ)) → v < 128 → first < k →
      low ≡ old ++ (Value first ∷ []) →
      AddsTree (IsCounted v
      (first + 1) k) low high → start ≡ length old → middle ≡ length low →
      ForksEnd start middle v first high new → AddsTree (IsCounted v first k) old new
  -- the list ends in the leaf of the first count and the tree of the higher ones, so what is added is their fork at
  -- `first`
  adds_counts first k old low high new small less one two at_start at_middle forks =
      let fork = forks old (Leaf first) two.0
      (split_of start middle old low high (Leaf first) two.0 one two.1 at_start at_middle) in (
        fork.0,
        fork.1,
        record {
          counts = more_counts v first k two.0 fork.0 two.2.counts fork.2.made;
          fit = λ space leaves. fork.2.fit space (counts_open_below space v first k small leaves less)
              (counts_open_above space v first k small leaves less) tt
              (two.2.fit _ (counts_above space v first k small leaves less));
          pass = λ test on. fork.2.pass test on tt (two.2.pass test on);
        },
      )

  -- a condition's value is added as a fork of false and true
  pub adds_value : (old low high new : List (TreeItem Bool)) → 128 ≤ v → v < 256 → low ≡ old ++ (Value false ∷ []) →
      high ≡ low ++ (Value true ∷ []) → start ≡ length old →
      middle ≡ length low →
      ForksEnd start middle v 0 high new → AddsTree (IsValued v) old new
  -- the list ends in the lists of the two leaves, so what is added is their fork, whose value is the condition's
  adds_value old low high new value there one two at_start at_middle forks =
      let fork = forks old (Leaf false) (Leaf true)
      (split_of start middle old low high (Leaf false) (Leaf true) one two at_start at_middle) in (
        fork.0,
        fork.1,
        record {
          value = value_is v fork.0 fork.2.made;
          fit = λ k space whole. fork.2.fit space (value_open_below k space whole v value there)
              (value_open_above k space whole v value there) tt tt;
          pass = λ test on. fork.2.pass test on tt tt;
        },
      )
