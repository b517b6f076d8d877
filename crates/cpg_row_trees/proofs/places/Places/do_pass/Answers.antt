-- Proof of `Places::do_pass`: whether a test passes at each place that scenarios of a space come to, and at no place if
-- some come to none.
use Rattle.std.proofs.Common.{ℕ, ◌∙◌, Option, sym, subst}
use Rattle.cpg_tree.proofs.Passes.{of_true}
use Rattle.cpg_row_trees.proofs.PlacesSeen.{place_seen}
use Rattle.cpg_row_trees.proofs.places.Places.do_pass.Goals as goal

-- the test passes at each leaf, so at what each scenario comes to
pub returns : goal.returns
returns g c = of_true c.do_pass.result c.do_pass.ensures (λ all s lies.
    -- the tree whose list the items are
    let is = c.self.invariant in
    subst (λ (x : Option ℕ). g.J.Test.guarantees c.args.test.now x s)
    (sym (place_seen c.self.inside.items.items is.0 c.args.self.now s is.1 c.self.view_is))
    (all is.0 (c.as_slice.ensures.value ∙ is.1) s lies))
