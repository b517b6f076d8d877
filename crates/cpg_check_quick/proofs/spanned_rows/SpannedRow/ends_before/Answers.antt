-- Proof of `SpannedRow::ends_before`: whether the item is over by the time of another, which has a tree, wherever a
-- column of each matches.
use Rattle.std.proofs.lemmas.Bool.{OnTrue_at}
use Rattle.cpg_tree.proofs.Passes.{of_true}
use Rattle.cpg_check_quick.proofs.OrderLaws.{early_before, walked_before}
use Rattle.cpg_check_quick.proofs.spanned_rows.SpannedRow.ends_before.Goals as goal

-- even its latest end is no later than the other's first time, so it is over before the other begins
pub returns-then-has_come : goal.returns-then-has_come
returns-then-has_come c = λ g tables lasts long y x everywhere is by there.
    early_before lasts is by (OnTrue_at c.if-has_come.true c.has_come.ensures.come)

-- wherever the two trees have a place each, the test has passed, so the item is over by the other's column
pub returns : goal.returns
returns c = of_true c.do_pass_with.result c.do_pass_with.ensures (λ all g tables lasts long y x everywhere is by there.
    walked_before lasts is by c.in-Some.own c.args.tree.now c.in-Some.is there (λ s law. all s (everywhere.lies s law)))
