-- Proof of `Places::do_pass_with`: whether a test passes at each pair of places to which a scenario of the space comes
-- here and in another tree.
use Rattle.std.proofs.Common.{ℕ, ◌∙◌, Option, sym, subst}
use Rattle.cpg_tree.proofs.Passes.{of_true}
use Rattle.cpg_tree.specs.Decision.{value_at}
use Rattle.cpg_row_trees.specs.Places.{place_at}
use Rattle.cpg_row_trees.proofs.PlacesSeen.{place_seen}
use Rattle.cpg_row_trees.proofs.places.Places.do_pass_with.Goals as goal

-- the places that both trees give a scenario pass together, as the walk through their items found
pub returns : goal.returns
returns g c = of_true c.do_pass_with.result c.do_pass_with.ensures (λ all s lies.
    -- the tree whose list the items are
    let is = c.self.invariant in
    let also = c.other.invariant in
    subst (λ (x : Option ℕ). g.J.PairTest.guarantees c.args.test.now x (place_at c.args.other.now s) s)
    (sym (place_seen c.self.inside.items.items is.0 c.args.self.now s is.1 c.self.view_is))
    (subst (λ (x : Option ℕ). g.J.PairTest.guarantees c.args.test.now (value_at is.0 s) x s)
    (sym (place_seen c.other.inside.items.items also.0 c.args.other.now s also.1 c.other.view_is))
    (all is.0 also.0 (c.as_slice.ensures.value ∙ is.1) (c.as_slice-2.ensures.value ∙ also.1) s lies)))
