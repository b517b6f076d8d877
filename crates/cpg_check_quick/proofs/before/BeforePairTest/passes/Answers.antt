-- Proof of `BeforePairTest::passes`: whether the test passes at a place of the other item and one of the item itself,
-- in all scenarios of a space.
use Rattle.std.proofs.Common.{ℕ, Option, subst, sym}
use Rattle.std.specs.Prelude.{IfSome}
use Rattle.cpg_cube.specs.declared.column.Column.{Column}
use Rattle.cpg_cube.specs.Column.{column_at}
use Rattle.cpg_tree.proofs.Passes.{of_true}
use Rattle.cpg_check_quick.specs.SpannedRows.{IsOverAt}
use Rattle.cpg_check_quick.proofs.OrderLaws.{told_at}
use Rattle.cpg_check_quick.proofs.before.BeforePairTest.passes.Goals as goal

-- the column that was looked up is the other item's at the first place, and the item is over by its time
pub returns : goal.returns
returns c = of_true c.is_over_from.result c.is_over_from.ensures (λ all s lies.
    subst (λ (o : Option ℕ). IfSome o
    (λ i. IsOverAt c.args.self.now.row.now (column_at c.args.self.now.columns.now i).time c.args.second s))
    (sym c.in-Some.is)
    (told_at (λ (d : Column). IsOverAt c.args.self.now.row.now d.time c.args.second s) c.args.self.now.columns.now
    c.in-Some.place c.in-Some-get.column.now
    c.in-Some-get.ensures.lookup.3.0 c.in-Some-get.ensures.lookup.1 (all s lies)))
