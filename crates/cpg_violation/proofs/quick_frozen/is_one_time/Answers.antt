-- Proof of `is_one_time`: whether all these columns have one time, also those that match in no scenario.
use Rattle.std.proofs.Common.{◌≡◌}
use Rattle.cpg_cube.specs.declared.column.Column.{Column}
use Rattle.cpg_violation.proofs.SureLaws.{each_all}
use Rattle.cpg_violation.proofs.quick_frozen.is_one_time.Goals as goal

-- the loop has gone over all columns, so all have the time of the first one
pub returns : goal.returns
returns c = (
  c.in-Some.first.now.time,
  each_all (λ (d : Column). d.time ≡ c.in-Some.first.now.time) c.args.columns.now c.loop-column.column-index
      c.loop-column-test.false c.loop-column.invariant,
)
