-- Proof of `BeforePairTest::passes_with_any`: whether the test passes at a place of the other item whatever the item's
-- own place is.
use Rattle.std.proofs.Common.{inl, ℕ, Option, subst, sym}
use Rattle.std.specs.Prelude.{IfSome}
use Rattle.cpg_cube.specs.declared.column.Column.{Column}
use Rattle.cpg_cube.specs.Column.{column_at}
use Rattle.cpg_tree.proofs.Passes.{of_true}
use Rattle.cpg_check_quick.specs.SpannedRows.{IsOverAt}
use Rattle.cpg_check_quick.proofs.OrderLaws.{told_at}
use Rattle.cpg_check_quick.proofs.before.BeforePairTest.passes_with_any.Goals as goal

-- even begun by its last column, the item is over by the time of the column at the first place
pub returns : goal.returns
returns c = of_true c.has_come.result c.has_come.ensures.come (λ early second s.
    subst (λ (o : Option ℕ).
    IfSome o (λ i. IsOverAt c.args.self.now.row.now (column_at c.args.self.now.columns.now i).time second s))
    (sym c.in-Some.is)
    (told_at (λ (d : Column). IsOverAt c.args.self.now.row.now d.time second s) c.args.self.now.columns.now
    c.in-Some.place c.in-Some-get.column.now
    c.in-Some-get.ensures.lookup.3.0 c.in-Some-get.ensures.lookup.1 (inl early)))
