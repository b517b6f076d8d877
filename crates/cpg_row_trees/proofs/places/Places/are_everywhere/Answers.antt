-- Proof of `Places::are_everywhere`: whether each scenario comes to a place: no leaf is without one.
use Rattle.std.proofs.Common.{◌∙◌, All, sym, subst}
use Rattle.cpg_tree.proofs.Passes.{of_true}
use Rattle.cpg_row_trees.specs.Places.{IsThere}
use Rattle.cpg_row_trees.proofs.PlacesSeen.{place_seen, there_in}
use Rattle.cpg_row_trees.proofs.places.Places.are_everywhere.Goals as goal

-- if each leaf has a place, each scenario comes to one
pub returns : goal.returns
returns c = of_true c.are_all_there.result c.are_all_there.ensures (λ all s none.
    -- the tree whose list the items are
    let is = c.self.invariant in
    there_in is.0 s (subst (All IsThere) (c.as_slice.ensures.value ∙ is.1) all)
    (sym (place_seen c.self.inside.items.items is.0 c.args.self.now s is.1 c.self.view_is) ∙ none))
