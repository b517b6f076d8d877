-- Proof of `marks_by`, which returns at which variables some column may follow one whose total is among these, by
-- number.
use Rattle.std.proofs.Common.{Bor, List, Contains, get_or, arith, subst}
use Rattle.cpg_cube.specs.declared.column.Column.{Column}
use Rattle.cpg_cube.specs.declared.literal.Literal.{Literal}
use Rattle.cpg_merging.specs.Totals.{HasNoPartner, IsMarked}
use Rattle.cpg_merging.proofs.MergingTotals.{marked_all, marked_next}
use Rattle.cpg_merging.proofs.marks.marks_by.Goals as goal

-- the marks for the columns before this place and for the one there are those for one more column
pub loop-place-preserved : goal.loop-place-preserved
loop-place-preserved c = marked_next (λ (b : Bor Column). b.now) c.args.sums.sorted.now c.args.columns.now
    c.args.totals.now c.loop-place.marks c.mark.new.marks c.loop-place.place
    c.index-columns-place.result (omega arith) c.index-columns-place.is
    c.requires.totals c.mark.ensures.kept
    (subst (λ (ls : List Literal). (n : Literal) → Contains ls n → ¬ IsMarked c.mark.new.marks n.variable →
    HasNoPartner c.args.sums.sorted.now (get_or c.args.totals.now c.loop-place.place 0) n)
    c.literals.ensures.literals c.mark.ensures.marked)
    c.loop-place.invariant

-- all columns are gone over, so the marks are those by all
pub returns : goal.returns
returns c = marked_all (λ (b : Bor Column). b.now) c.args.sums.sorted.now c.args.columns.now c.loop-place.marks
    c.loop-place.place (omega arith) c.loop-place.invariant
