-- Proof of `first_time`: the least time of these columns; the greatest number of 64 bits if there are none.
use Rattle.std.proofs.Common.{ℕ, ◌≤◌, All, min, arith, subst, sym, ap, ◌∙◌}
use Rattle.std.specs.List.{fold}
use Rattle.std.proofs.lemmas.List.{take_all, drop_all}
use Rattle.cpg_cube.specs.declared.column.Column.{Column}
use Rattle.cpg_violation.proofs.SievedRowLaws.{fold_more, not_before_more}
use Rattle.cpg_violation.proofs.sieved_rows.first_time.Goals as goal

-- the lesser of the time so far and the next column's is the first of one column more
pub loop-column-preserved : goal.loop-column-preserved
loop-column-preserved c = record {
  first = fold_more (λ (time : ℕ) (d : Column). min time d.time) c.loop-column.first c.min-first.result
      c.args.columns.now c.loop-column.column-index c.column-item.result c.column-item.result
      c.loop-column-test.true c.column-item.is c.min-first.ensures
      ∙ c.loop-column.invariant.first;
  all = not_before_more c.args.columns.now c.loop-column.column-index c.column-item.result c.loop-column.first
      c.min-first.result c.loop-column-test.true c.column-item.is c.loop-column.invariant.all
      (omega (arith, c.min-first.ensures)) (omega (arith, c.min-first.ensures));
}

-- no column is left, so `first` is the first time of all
pub returns-clause-first : goal.returns-clause-first
returns-clause-first c = sym (ap (fold (λ (time : ℕ) (d : Column). min time d.time) c.loop-column.first)
    (drop_all c.loop-column.column-index c.args.columns.now c.loop-column-test.false)) ∙
    c.loop-column.invariant.first

-- no column is earlier than the least time
pub returns-clause-all : goal.returns-clause-all
returns-clause-all c = subst (All (λ (d : Column). c.loop-column.first ≤ d.time))
    (take_all c.loop-column.column-index c.args.columns.now c.loop-column-test.false) c.loop-column.invariant.all
