-- Loops of `listed_rows`, which returns the rows with their columns listed.
use Rattle.std.proofs.Common.{◌≡◌, ◌++◌}
use Rattle.cpg_tree_columns.proofs.made_row.listed_rows.Given as goal

-- the rows that are listed and those still to come are all that were made
abbrev pub invariant-loop-row : goal.invariant-loop-row
invariant-loop-row l = l.rows.items ++ l.row-iterator.rest.items ≡ l.fn.made.items
