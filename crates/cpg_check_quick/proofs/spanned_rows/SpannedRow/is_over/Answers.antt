-- Proof of `SpannedRow::is_over`: whether the item is over by a time in the scenarios of a space, by whichever columns
-- match there.
use Rattle.std.proofs.lemmas.Bool.{OnTrue_at}
use Rattle.cpg_tree.proofs.Passes.{of_true}
use Rattle.cpg_check_quick.proofs.OrderLaws.{told_over}
use Rattle.cpg_check_quick.proofs.spanned_rows.SpannedRow.is_over.Goals as goal

-- the item is over by the time in each scenario, and so in those of the space
pub returns-then-is_early : goal.returns-then-is_early
returns-then-is_early c =
    λ g tables lasts x s is law lies. OnTrue_at c.if-is_early.true c.is_early.ensures g tables lasts x s is law

-- the test has passed at each place to which the tree leads scenarios of the space, so the item is over there
pub returns : goal.returns
returns c = of_true c.do_pass.result c.do_pass.ensures
    (λ all g tables lasts x s is law lies. told_over is law c.in-Some.tree c.in-Some.is c.args.time (all s lies))
