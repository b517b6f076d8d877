-- Proof of `SpannedRows::are_apart`: whether each of these items and another are apart wherever a column of each
-- matches.
use Rattle.std.proofs.Common.{◌≡◌, All, true}
use Rattle.std.proofs.lemmas.Bool.{OnTrue_at}
use Rattle.cpg_cube.specs.Cube.{matches}
use Rattle.cpg_cube.specs.declared.column.Column.{Column}
use Rattle.cpg_check_quick.specs.Order.{IsApartAt}
use Rattle.cpg_check_quick.proofs.OrderLaws.{apart_all}
use Rattle.cpg_violation.proofs.SureLaws.{each_all, each_more}
use Rattle.cpg_check_quick.proofs.spanned_rows.SpannedRows.are_apart.Goals as goal

-- wherever the next column matches, each item is apart from the other, too
pub loop-column-preserved : goal.loop-column-preserved
loop-column-preserved c = λ g tables lasts x s are is law.
    each_more (λ (d : Column). matches d.cube s ≡ true → All (λ y. IsApartAt tables (lasts y s) y (lasts x s) d.time s)
    c.args.items.now) c.args.other.now.columns.now c.loop-column.column-index
    c.column-item.result c.loop-column-test.true c.column-item.is
    (c.loop-column.invariant g tables lasts x s are is law)
    (OnTrue_at c.if-not-are_apart_at.false c.are_apart_at.ensures g tables lasts x s are is law)

-- the loop has gone over all columns, so what its invariant says of those so far holds of each
pub returns : goal.returns
returns c = λ g tables lasts x are is.
    apart_all lasts g tables x c.args.other.now.columns.now c.args.items.now is.columns (λ s law.
    each_all (λ (d : Column). matches d.cube s ≡ true → All (λ y. IsApartAt tables (lasts y s) y (lasts x s) d.time s)
    c.args.items.now) c.args.other.now.columns.now c.loop-column.column-index
    c.loop-column-test.false (c.loop-column.invariant g tables lasts x s are is law))
