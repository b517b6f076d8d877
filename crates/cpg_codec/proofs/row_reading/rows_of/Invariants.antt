-- Loops of `rows_of`: the rows of these items, if `columns_read` columns were read before them, and how many were read up to
-- their end.
use Rattle.std.proofs.Common.{◌≡◌, ◌+◌, ◌≤◌, ℕ, length, drop}
use Rattle.cpg_base.specs.declared.limits.TheConstants.{MOST_LOAD}
use Rattle.cpg_table.specs.Table.{Row}
use Rattle.cpg_table.specs.Lawful.{column_count}
use Rattle.cpg_codec.specs.Reading.{read_each}
use Rattle.cpg_codec.specs.Grammar.{read_row, read_rows}
use Rattle.cpg_codec.proofs.Loop.{with_front}
use Rattle.cpg_codec.proofs.row_reading.rows_of.Given as goal

-- `so_far`: the rows so far, in front of what reading the others gives, are what reading all of them gives. `total`
-- counts the columns before these rows and theirs. `few`: these columns are within the limit.
abbrev pub invariant-loop-item : goal.invariant-loop-item
invariant-loop-item l = record {
  so_far : with_front l.rows.items (read_each (λ (c : ℕ) (r : Row). c + length r.columns) (read_row l.fn.space)
      (drop l.item-index l.fn.items) l.total l.unread)
      ≡ read_rows l.fn.space l.fn.items l.fn.columns_read l.fn.unread;
  total : l.total ≡ l.fn.columns_read + column_count l.rows.items;
  few : l.total ≤ MOST_LOAD;
}
