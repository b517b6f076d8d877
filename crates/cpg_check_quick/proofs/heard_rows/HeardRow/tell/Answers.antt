-- Proof of `HeardRow::tell`: writes to `left` those of the wanted literals that its frames aren't found to have told by
-- a column's time wherever that matches.
use Rattle.std.proofs.lemmas.Bool.{OnTrue_at}
use Rattle.cpg_check_quick.proofs.HeardRowLaws.{left_untold}
use Rattle.cpg_check_quick.proofs.heard_rows.HeardRow.tell.Goals as goal

-- in each scenario that the column matches, one of the gathered places matches, and its frame has come and tells each
-- wanted literal that isn't left, so the node has heard it
pub returns : goal.returns
returns c = λ g tables node is wider lies.
    left_untold is c.gather.new.found.items c.args.column.now c.args.wanted.now c.leave.new.left.items wider
    c.in_ok-leave.ensures.among (rw c.as_slice.ensures.value at c.in_ok-leave.ensures.told)
    (λ s law m. OnTrue_at c.if-not-all.false c.in_ok-all.ensures s (lies s law m))
