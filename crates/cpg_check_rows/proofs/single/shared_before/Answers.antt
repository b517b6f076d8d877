-- Proof of `shared_before`: the least scenario that a column of a row matches together with an earlier one.
use Rattle.cpg_check_rows.proofs.Doubles.{at_place}
use Rattle.cpg_check_rows.proofs.single.shared_before.Goals as goal

-- each earlier column that matches together with this one is at one of the places, and no later one is looked at, so
-- the answer for the places is the least scenario
pub returns : goal.returns
returns c = at_place c.args.problem.now c.args.order.now c.args.columns.now c.args.column c.index-columns-column.result
    c.requires.column c.in_ok-places.places.items c.in_ok-found.found
    (λ s j m l n. c.in_ok-places.ensures s j l n m) (rw c.as_slice.ensures.value at c.in_ok-found.ensures)
