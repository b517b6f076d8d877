-- Proof of `gather`, which adds the places that scenarios of a space come to.
use Rattle.std.proofs.Common.{◌≡◌, ◌∙◌, Option, subst, sym, ℕ}
use Rattle.cpg_tree.specs.TreeNode.{TreeNode, Leaf}
use Rattle.cpg_tree.specs.Decision.{value_at}
use Rattle.cpg_row_trees.specs.Places.{IsAmong}
use Rattle.cpg_tree.proofs.Flats.{flat-same}
use Rattle.cpg_tree.proofs.Passes.{of_true}
use Rattle.cpg_row_trees.proofs.gathering.gather.Goals as goal

-- the part of the tree in the space is one leaf, whose place passes and was added
pub returns-in_ok-there-in-Value-clause-found : goal.returns-in_ok-there-in-Value-clause-found
returns-in_ok-there-in-Value-clause-found g c =
    of_true c.in_ok-there-in-Value.there c.in_ok-there-in-Value.ensures.found (λ found n are s lies.
    -- the part of the other tree that the space comes to
    let part = c.part_in-part.ensures.part n are in
    subst (λ (x : Option ℕ). g.J.Test.guarantees c.args.test.now x s × IsAmong c.gather_one.new.found.items x)
    (subst (λ (m : TreeNode (Option ℕ)). value_at m s ≡ value_at n s) (flat-same part.0 (Leaf c.in-Value.place)
    (sym part.1 ∙ c.in-Value.ensures.shows)) (part.2.same.value s lies)) (found s lies))

-- the part of the tree that the space comes to has the places of its scenarios
pub returns-in_ok-all-in-Cut-clause-found : goal.returns-in_ok-all-in-Cut-clause-found
returns-in_ok-all-in-Cut-clause-found g c =
    of_true c.in_ok-all-in-Cut.all c.in_ok-all-in-Cut.ensures.found (λ found n are s lies.
    -- the part of the other tree that the space comes to
    let part = c.part_in-part.ensures.part n are in
    subst (λ (x : Option ℕ). g.J.Test.guarantees c.args.test.now x s × IsAmong c.gather_in_all.new.found.items x)
    (part.2.same.value s lies) (found part.0 part.1 s lies))
