-- Proof of `Listener::is_told`: whether the first of the heard rows tells all literals of a column that aren't on known
-- variables, by its own column at `place` or by the next one, to which `place` then moves: mostly the columns of a
-- message and of its target are in one order.
use Rattle.std.proofs.Common.{◌≡◌, List, All, sym, subst}
use Rattle.std.proofs.lemmas.Bool.{OnTrue_at}
use Rattle.cpg_check_quick.specs.HeardRows.{IsHeardRow}
use Rattle.cpg_check_quick.specs.declared.heard_rows.HeardRow.{HeardRow}
use Rattle.cpg_check_quick.proofs.HeardRowLaws.{heard_row_at}
use Rattle.cpg_check_quick.proofs.listening.Listener.is_told.Goals as goal

-- the heard row's column at `place` tells all that isn't known
pub returns-then-is_told_by : goal.returns-then-is_told_by
returns-then-is_told_by c = λ tables x is rules k. OnTrue_at c.if-is_told_by.true c.is_told_by.ensures tables x is
    (heard_row_at is.heard_rows 0 c.in-Some.heard_row.now c.deref.result.now c.deref.ensures.value
    c.in-Some.ensures.lookup.3.0
    c.in-Some.ensures.lookup.1) rules k

-- its next column does
pub returns : goal.returns
returns c = λ tables x is rules k. OnTrue_at c.if-not-is_told_by.false c.is_told_by-2.ensures tables x is
    (heard_row_at is.heard_rows 0 c.in-Some.heard_row.now c.deref.result.now c.deref.ensures.value
    c.in-Some.ensures.lookup.3.0
    c.in-Some.ensures.lookup.1) rules k
