-- Proof of `SpannedRow::is_early`: whether the item is over by a time even if it begins by its last column and lasts
-- longest.
use Rattle.cpg_tree.proofs.Passes.{of_true}
use Rattle.cpg_check_quick.proofs.OrderLaws.{early_over}
use Rattle.cpg_check_quick.proofs.spanned_rows.SpannedRow.is_early.Goals as goal

-- its latest end is no later than the time, and neither is any other
pub returns : goal.returns
returns c = of_true c.has_come.result c.has_come.ensures.come
    (λ at_most g tables lasts x s row law. early_over row law c.args.time at_most)
