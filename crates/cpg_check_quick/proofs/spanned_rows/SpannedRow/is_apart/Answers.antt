-- Proof of `SpannedRow::is_apart`: whether the item and another, which begins at `time`, are apart in the scenarios of
-- a space.
use Rattle.std.proofs.lemmas.Bool.{OnTrue_at}
use Rattle.cpg_tree.proofs.Passes.{of_true}
use Rattle.cpg_check_quick.proofs.OrderLaws.{told_apart}
use Rattle.cpg_check_quick.proofs.spanned_rows.SpannedRow.is_apart.Goals as goal

-- the two are apart in each scenario, and so in those of the space
pub returns-then-is_clear : goal.returns-then-is_clear
returns-then-is_clear c = λ g tables lasts y x s is other law lies.
    OnTrue_at c.if-is_clear.true c.is_clear.ensures g tables lasts y x s is other law

-- the test has passed at each place to which the tree leads scenarios of the space, so the two are apart there
pub returns : goal.returns
returns c = of_true c.do_pass.result c.do_pass.ensures (λ all g tables lasts y x s is other law lies.
    told_apart is law c.in-Some.tree c.in-Some.is other.span c.args.time (all s lies))
