-- Loops of `add_columns`, which returns the count with that of the columns of these rows added.
use Rattle.std.proofs.Common.{◌≡◌, ◌+◌, drop}
use Rattle.cpg_table.specs.Lawful.{column_count}
use Rattle.cpg_app.proofs.column_counts.add_columns.Given as goal

-- the count so far and the columns of the rows left are together the count before and the columns of all rows
abbrev pub invariant-loop-row : goal.invariant-loop-row
invariant-loop-row l = l.count + column_count (drop l.row-index l.rows) ≡ l.before + column_count l.rows
