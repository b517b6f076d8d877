-- Proof of `heard_rows`: the rows of those of these items that a node hears and whose rows have trees, in the order of
-- the items.
use Rattle.std.proofs.lemmas.List.Elements.{All-push}
use Rattle.cpg_check_quick.specs.HeardRows.{IsHeardRow}
use Rattle.cpg_check_quick.proofs.heard_rows.heard_rows.Goals as goal

-- the node hears the item of the row that is added
pub loop-item-preserved : goal.loop-item-preserved
loop-item-preserved c = λ tables are. rw c.in_ok-push.ensures.items
    (All-push (IsHeardRow c.args.problem.now tables c.args.node) c.loop-item.found.items c.in-Some.heard_row
    (c.loop-item.invariant tables are) (c.in-Some.ensures tables are))
