-- Proof of `add_row`: adds to `arrivals` the columns of a row that may match together with a cube, and whose ends or
-- frames may have come by a time.
use Rattle.std.proofs.Common.{◌||◌, Contains, sym, ap, ◌∙◌, subst}
use Rattle.std.specs.List.{list_any}
use Rattle.std.proofs.Math.Bool.{or-false}
use Rattle.std.proofs.lemmas.List.{take_all}
use Rattle.cpg_check_heard.specs.Arrivals.{do_tell}
use Rattle.cpg_check_heard.specs.TellingRows.{is_telling, is_telling_at}
use Rattle.cpg_check_heard.proofs.ArrivalLaws.{late_row}
use Rattle.cpg_check_heard.proofs.PartLaws.{row_more, row_all}
use Rattle.cpg_check_heard.proofs.arrivals.add_row.Goals as goal

-- with the next place's column, the columns tell what one place more of the row tells
pub loop-place-preserved : goal.loop-place-preserved
loop-place-preserved c =
    let row = c.args.row.now in
    let places = c.as_slice-place-items.result.now in
    record {
      each =
          λ g known can old. c.in_ok-add_column.ensures.each g known can (c.loop-place.invariant.each g known can old);
      told = λ g b s. row_more (is_telling_at g row.means c.args.time b row.sieved.now.columns.now s) places
          c.loop-place.place-index 0 c.loop-place-test.true
          (do_tell g c.args.time b c.args.arrivals.now.items s) (do_tell g c.args.time b c.loop-place.arrivals.items s)
          (do_tell g c.args.time b c.add_column.new.arrivals.items s)
          (c.loop-place.invariant.told g b s)
          (c.in_ok-add_column.ensures.told g b s);
    }

-- the places have each column of the row that matches together with the cube, so they tell what the row does
pub returns-clause-told : goal.returns-clause-told
returns-clause-told c = λ g b s m.
    let row = c.args.row.now in
    let places = c.as_slice-place-items.result.now in
    c.loop-place.invariant.told g b s ∙ ap (λ x. do_tell g c.args.time b c.args.arrivals.now.items s || x)
    (ap (list_any (is_telling_at g row.means c.args.time b row.sieved.now.columns.now s))
    (take_all c.loop-place.place-index places c.loop-place-test.false)
    ∙ row_all g row.means c.args.time b row.sieved.now.columns.now places s
    (λ j l at.
    subst (λ xs. Contains xs j) (sym c.as_slice-place-items.ensures.value) (c.in_ok-places.ensures s j l at m)))

-- even the row's first column comes too late, so the row tells nothing
pub returns-then-not-may_have_come-clause-told : goal.returns-then-not-may_have_come-clause-told
returns-then-not-may_have_come-clause-told c = λ g b s m.
    let row = c.args.row.now in
    let told = do_tell g c.args.time b c.args.arrivals.now.items s in
    sym (ap (λ x. told || x) (late_row (is_telling g row.means c.args.time b s)
    row.sieved.now.columns.now row.sieved.now.first
    c.requires.first (c.if-not-may_have_come.ensures g b s)) ∙ or-false told)
