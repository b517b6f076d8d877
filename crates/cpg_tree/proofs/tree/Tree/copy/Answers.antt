-- Proof of `Tree::copy`, which returns an equal tree.
use Rattle.std.proofs.Common.{ℕ, sym, ap, ◌∙◌, subst}
use Rattle.cpg_tree.specs.Decision.{IsGood}
use Rattle.cpg_tree.proofs.Publics.{state, state_seen}
use Rattle.cpg_tree.proofs.tree.Tree.copy.Goals as goal

-- the copied items are those of the tree, so they are a good list
pub of-requires : goal.of-requires
of-requires g c =
    -- the tree whose list the function is given
    let n = c.items.ensures.flat in (
      n.0,
      c.in_ok-copied.ensures.items ∙ n.1,
      subst (λ (m : ℕ). IsGood m n.0) (sym c.faults.ensures) (c.items.ensures.good n.0 n.1),
    )

-- the copied list shows the same paths
pub returns-clause-is : goal.returns-clause-is
returns-clause-is g c =
    -- the tree whose list the function is given
    let n = c.items.ensures.flat in
    c.of.ensures.is n.0 (c.in_ok-copied.ensures.items ∙ n.1) ∙ ap (λ (m : ℕ). state m n.0) c.faults.ensures
    ∙ state_seen c.args.self.now n.0 (c.items.ensures.paths n.0 n.1)
