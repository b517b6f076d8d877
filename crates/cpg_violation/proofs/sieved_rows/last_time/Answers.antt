-- Proof of `last_time`: the greatest time of these columns; 0 if there are none.
use Rattle.std.proofs.Common.{ℕ, ◌≤◌, All, max, arith, subst, sym, ap, ◌∙◌}
use Rattle.std.specs.List.{fold}
use Rattle.std.proofs.lemmas.List.{take_all, drop_all}
use Rattle.cpg_cube.specs.declared.column.Column.{Column}
use Rattle.cpg_violation.proofs.SievedRowLaws.{fold_more, not_after_more}
use Rattle.cpg_violation.proofs.sieved_rows.last_time.Goals as goal

-- the greater of the time so far and the next column's is the last of one column more
pub loop-column-preserved : goal.loop-column-preserved
loop-column-preserved c = record {
  last = fold_more (λ (time : ℕ) (d : Column). max time d.time) c.loop-column.last c.max-last.result c.args.columns.now
      c.loop-column.column-index c.column-item.result c.column-item.result
      c.loop-column-test.true c.column-item.is c.max-last.ensures
      ∙ c.loop-column.invariant.last;
  all = not_after_more c.args.columns.now c.loop-column.column-index c.column-item.result c.loop-column.last
      c.max-last.result c.loop-column-test.true c.column-item.is c.loop-column.invariant.all
      (omega (arith, c.max-last.ensures)) (omega (arith, c.max-last.ensures));
}

-- no column is left, so `last` is the last time of all
pub returns-clause-last : goal.returns-clause-last
returns-clause-last c = sym (ap (fold (λ (time : ℕ) (d : Column). max time d.time) c.loop-column.last)
    (drop_all c.loop-column.column-index c.args.columns.now c.loop-column-test.false)) ∙
    c.loop-column.invariant.last

-- no column is later than the greatest time
pub returns-clause-all : goal.returns-clause-all
returns-clause-all c = subst (All (λ (d : Column). d.time ≤ c.loop-column.last))
    (take_all c.loop-column.column-index c.args.columns.now c.loop-column-test.false) c.loop-column.invariant.all
