-- Proof of `Tree<OptionalTime>::is_at_least`: whether the tree has in each scenario a time that is at least `least`.
use Rattle.std.proofs.Common.{ℕ, [], Option, All, subst}
use Rattle.cpg_tree.specs.Tree.{TreeState}
use Rattle.cpg_tree.proofs.AtLeast.{IsFrom, at_least_paths}
use Rattle.cpg_tree.proofs.Passes.{of_true}
use Rattle.cpg_tree.proofs.Publics.{state_seen}
use Rattle.cpg_tree.proofs.tree.Tree+OptionalTime.is_at_least.Goals as goal

-- each leaf of the list is a time of at least this, so is the time of each path
pub returns : goal.returns
returns c = of_true c.are_at_least.result c.are_at_least.ensures (λ h.
    -- the tree whose list the function is given
    let n = c.items.ensures.flat in
    subst (λ (t : TreeState (Option ℕ)). All (IsFrom c.args.least) t.paths)
    (state_seen c.args.self.now n.0 (c.items.ensures.paths n.0 n.1))
    (at_least_paths c.args.least c.args.self.now.faults n.0 [] (h n.0 n.1)))
