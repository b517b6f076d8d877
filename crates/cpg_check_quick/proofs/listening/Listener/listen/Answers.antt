-- Proof of `Listener::listen`: keeps those of the wanted literals that no heard row is found to tell by a column's time
-- wherever that matches.
use Rattle.std.proofs.Common.{All, ap, subst, sym}
use Rattle.std.proofs.lemmas.Bool.{OnTrue_at}
use Rattle.cpg_check_quick.specs.Hearing.{AreLeft}
use Rattle.cpg_check_quick.specs.HeardRows.{IsHeardRow}
use Rattle.cpg_check_quick.proofs.HeardRowLaws.{left_first, left_more}
use Rattle.cpg_check_quick.proofs.listening.Listener.listen.Goals as goal

-- before the first heard row all wanted literals are left
pub loop-heard_row-init : goal.loop-heard_row-init
loop-heard_row-init c =
    λ g tables all wider lies. left_first g tables c.args.self.now.node c.args.column.now c.args.wanted.now.items

-- of the literals left before, those that the next heard row doesn't leave have been heard, too
pub loop-heard_row-preserved : goal.loop-heard_row-preserved
loop-heard_row-preserved c = λ g tables all wider lies.
    let before = c.loop-heard_row.invariant g tables all wider lies in
    -- the next heard row is one of an item that the node hears
    let speaks = subst (IsHeardRow g tables c.args.self.now.node) (sym c.heard_row-item.is)
    (subst (All (IsHeardRow g tables c.args.self.now.node)) (sym c.as_slice-heard_row-items.ensures.value) all
    c.loop-heard_row.heard_row-index c.heard_row-item.result c.loop-heard_row-test.true) in
    -- what it tells of the literals left before, which the column implies
    let told = OnTrue_at c.if-not-has_told.false (rw c.as_slice.ensures.value at c.in_ok-has_told.ensures) g tables
    c.args.self.now.node speaks (λ l h. wider l (before.among l h)) lies in
    subst (AreLeft g tables c.args.self.now.node c.args.column.now c.args.wanted.now.items)
    (ap (λ v. v.items) (sym c.swap.ensures.x_after))
    (left_more g tables c.args.self.now.node c.args.column.now c.args.wanted.now.items c.loop-heard_row.wanted.items
    c.tell.new.left.items before told)
