-- Proof of `tell_at_all`: whether there is a column at each of these places, and one of its literals implies the wanted
-- one.
use Rattle.std.proofs.lemmas.Bool.{OnTrue_at}
use Rattle.std.proofs.lemmas.List.Elements.{All-more}
use Rattle.cpg_cube.specs.Column.{column_at}
use Rattle.cpg_check_quick.specs.HeardRows.{IsToldIn}
use Rattle.cpg_violation.proofs.SureLaws.{each_all}
use Rattle.cpg_check_quick.proofs.heard_rows.tell_at_all.Goals as goal

-- the test passed for the next place, so what it guarantees holds of one place more
pub loop-place-preserved : goal.loop-place-preserved
loop-place-preserved c = All-more (λ i. IsToldIn (column_at c.args.columns.now i).cube c.args.wanted.now)
    c.args.places.now c.loop-place.place-index 0 c.loop-place-test.true c.loop-place.invariant
    (OnTrue_at c.if-not-tells_at.false c.tells_at.ensures)

-- the loop has gone over all places, so what its invariant says of those so far holds of each
pub returns : goal.returns
returns c = each_all (λ i. IsToldIn (column_at c.args.columns.now i).cube c.args.wanted.now) c.args.places.now
    c.loop-place.place-index c.loop-place-test.false c.loop-place.invariant
