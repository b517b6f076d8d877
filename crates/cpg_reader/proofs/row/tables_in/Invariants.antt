-- Loops of `tables_in`, which returns the tables of an array, or `None` if an element isn't a table.
use Rattle.std.proofs.Common.{◌≡◌, map, drop}
use Rattle.toml.specs.Data.{as_table}
use Rattle.toml.specs.View.{items_view, table_view}
use Rattle.cpg_reader.specs.Rows.{items_as}
use Rattle.cpg_reader.proofs.Items.{after}
use Rattle.cpg_reader.proofs.row.tables_in.Given as goal

-- reading all elements as tables gives what reading those that are left gives, after the tables so far
abbrev pub invariant-loop-element : goal.invariant-loop-element
invariant-loop-element l =
    items_as as_table (items_view l.element-items) ≡ after (map (λ t. table_view t.now) l.tables.items)
    (items_as as_table (items_view (drop l.element-index l.element-items)))
