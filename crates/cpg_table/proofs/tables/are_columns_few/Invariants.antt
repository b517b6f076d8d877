-- Loops of `are_columns_few`: whether the tables don't have too many columns.
use Rattle.std.proofs.Common.{◌≡◌, ◌+◌, drop, sum_by}
use Rattle.cpg_table.specs.Lawful.{column_count, rows_of}
use Rattle.cpg_table.proofs.tables.are_columns_few.Given as goal

-- `total` and the columns of the tables that are left are the columns of all tables
abbrev pub invariant-loop-table : goal.invariant-loop-table
invariant-loop-table l = l.total + sum_by (λ t. column_count (rows_of t)) (drop l.table-index l.nodes)
    ≡ sum_by (λ t. column_count (rows_of t)) l.nodes
