-- Proof of `Places::gather`, which adds the places that scenarios of a space come to; stops with false at the first
-- leaf that has none, or that fails a test.
use Rattle.std.proofs.Common.{ℕ, ◌∙◌, Option, sym, subst}
use Rattle.cpg_tree.proofs.Passes.{of_true}
use Rattle.cpg_row_trees.specs.Places.{IsAmong}
use Rattle.cpg_row_trees.proofs.PlacesSeen.{place_seen}
use Rattle.cpg_row_trees.proofs.places.Places.gather.Goals as goal

-- the test passes at what each scenario comes to, and that is among the places that were added
pub returns : goal.returns
returns g c = of_true c.in_ok-all.all c.in_ok-all.ensures.found (λ all s lies.
    -- the tree whose list the items are
    let is = c.self.invariant in
    subst (λ (x : Option ℕ). g.J.Test.guarantees c.args.test.now x s × IsAmong c.gather.new.found.items x)
    (sym (place_seen c.self.inside.items.items is.0 c.args.self.now s is.1 c.self.view_is))
    (all is.0 (c.as_slice.ensures.value ∙ is.1) s lies))
