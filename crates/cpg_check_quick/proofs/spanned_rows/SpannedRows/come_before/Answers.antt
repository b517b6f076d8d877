-- Proof of `SpannedRows::come_before`: whether each of these items is over by the time of another, which has these
-- columns, wherever a column of each matches.
use Rattle.std.proofs.Common.{◌≡◌, All, true}
use Rattle.std.proofs.lemmas.Bool.{OnTrue_at}
use Rattle.cpg_cube.specs.Cube.{matches}
use Rattle.cpg_cube.specs.declared.column.Column.{Column}
use Rattle.cpg_check_quick.specs.Order.{IsOverBy}
use Rattle.cpg_check_quick.proofs.OrderLaws.{over_all}
use Rattle.cpg_violation.proofs.SureLaws.{each_all, each_more}
use Rattle.cpg_check_quick.proofs.spanned_rows.SpannedRows.come_before.Goals as goal

-- wherever the next column matches, the items are over by its time, too
pub loop-column-preserved : goal.loop-column-preserved
loop-column-preserved c = λ g tables lasts s are law.
    each_more
    (λ (d : Column). matches d.cube s ≡ true → All (λ y. IsOverBy tables (lasts y s) y d.time s) c.args.items.now)
    c.args.columns.now c.loop-column.column-index c.column-item.result
    c.loop-column-test.true c.column-item.is
    (c.loop-column.invariant g tables lasts s are law)
    (OnTrue_at c.if-not-are_over_at.false c.are_over_at.ensures g tables lasts s are law)

-- the loop has gone over all columns, so what its invariant says of those so far holds of each
pub returns : goal.returns
returns c = λ g tables lasts x are same. over_all lasts g tables x c.args.columns.now c.args.items.now same (λ s law.
    each_all
    (λ (d : Column). matches d.cube s ≡ true → All (λ y. IsOverBy tables (lasts y s) y d.time s) c.args.items.now)
    c.args.columns.now c.loop-column.column-index c.loop-column-test.false
    (c.loop-column.invariant g tables lasts s are law))
