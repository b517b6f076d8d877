-- Proof of `SpannedRow::is_over_from`: whether the item, begun by its column at a place, is over by a time in the
-- scenarios of a space; true if there is no place.
use Rattle.std.proofs.Common.{inr}
use Rattle.cpg_tree.proofs.Passes.{of_true}
use Rattle.cpg_check_quick.proofs.spanned_rows.SpannedRow.is_over_from.Goals as goal

-- the test says that the item is over from its column at this place
pub returns : goal.returns
returns c = of_true c.passes.result c.passes.ensures (λ all s lies. inr (all s lies))
