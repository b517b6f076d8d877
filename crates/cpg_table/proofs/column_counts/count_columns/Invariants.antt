-- Loops of `count_columns`: how many columns rows have, with those before them, or `None` if the number doesn't
-- fit a machine word.
use Rattle.std.proofs.Common.{◌≡◌, ◌+◌, drop}
use Rattle.cpg_table.specs.Lawful.{column_count}
use Rattle.cpg_table.proofs.column_counts.count_columns.Given as goal

-- `count` and the columns of the rows left are `earlier` and the columns of all rows
abbrev pub invariant-loop-row : goal.invariant-loop-row
invariant-loop-row l = l.count + column_count (drop l.row-index l.rows) ≡ l.earlier + column_count l.rows
