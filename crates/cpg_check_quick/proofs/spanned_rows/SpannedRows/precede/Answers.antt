-- Proof of `SpannedRows::precede`: whether each of these items is over by the time of another, wherever a column of
-- each matches.
use Rattle.cpg_tree.proofs.Passes.{of_true}
use Rattle.cpg_check_quick.proofs.spanned_rows.SpannedRows.precede.Goals as goal

-- the row has no tree, and `come_before` has gone over its columns
pub returns-in_default : goal.returns-in_default
returns-in_default c = of_true c.come_before.result c.come_before.ensures
    (λ all g tables lasts long x are is. all g tables lasts x are is.columns)

-- the row has a tree, and `end_before` has gone down it
pub returns : goal.returns
returns c = of_true c.end_before.result c.end_before.ensures
    (λ all g tables lasts long x are is. all g tables lasts long x are is c.in-Some.is)
