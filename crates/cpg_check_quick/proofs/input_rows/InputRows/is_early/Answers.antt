-- Proof of `InputRows::is_early`: whether what an input comes by is over by a time even if it begins by its last column
-- and lasts longest.
use Rattle.cpg_tree.proofs.Passes.{of_true}
use Rattle.cpg_check_quick.proofs.InputRowLaws.{input_over}
use Rattle.cpg_check_quick.proofs.input_rows.InputRows.is_early.Goals as goal

-- the row is that of what the input comes by, which is over by the time in each scenario
pub returns-in-Some : goal.returns-in-Some
returns-in-Some c = of_true c.is_early.result c.is_early.ensures
    (λ early tables s w law. input_over (c.in-Some.ensures tables w) c.args.time s
    (λ lasts x is. early c.args.self.now.admitted.now.graph tables lasts x s is law))
