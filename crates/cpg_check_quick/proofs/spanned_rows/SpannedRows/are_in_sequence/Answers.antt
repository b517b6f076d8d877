-- Proof of `SpannedRows::are_in_sequence`: whether each of these items is over before each later one.
use Rattle.std.proofs.Common.{arith, get_or}
use Rattle.std.proofs.lemmas.Bool.{OnTrue_at}
use Rattle.cpg_check_quick.proofs.OrderLaws.{row_at, sequence_step}
use Rattle.cpg_check_quick.proofs.spanned_rows.SpannedRows.are_in_sequence.Goals as goal

-- the items from `start` on are over before the next one, and so are those before `start`; if the next one is always
-- active, it is the new start
pub loop-place-preserved : goal.loop-place-preserved
loop-place-preserved c = sequence_step c.args.self.now c.args.items.now c.loop-place.place c.loop-place.start
    c.next_start-start.result c.in-Some.row.now.is_always c.next_start-start.ensures
    c.loop-place-test.true
    (λ g tables lasts are e.
    let row = row_at are (get_or c.args.items.now c.loop-place.place 0) c.in-Some.row.now c.deref.result.now
    c.deref.ensures.value c.in-Some.ensures.lookup.3.0 c.in-Some.ensures.lookup.1 in
    (row.always e, row.item))
    (λ g tables lasts are.
    let row = row_at are (get_or c.args.items.now c.loop-place.place 0) c.in-Some.row.now c.deref.result.now
    c.deref.ensures.value c.in-Some.ensures.lookup.3.0 c.in-Some.ensures.lookup.1 in
    let item = get_or c.args.items.now c.loop-place.place 0 in
    OnTrue_at c.if-not-precede.false c.precede.ensures g tables lasts (lasts item) item are row)
    c.loop-place.invariant

-- the loop has gone over all places
pub returns : goal.returns
returns c = λ g tables lasts are present i j h k.
    c.loop-place.invariant.before g tables lasts are present i j h (omega (arith, k, c.loop-place-test.false))
