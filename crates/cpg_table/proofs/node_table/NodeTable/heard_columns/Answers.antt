-- Proof of `NodeTable::heard_columns`: the columns of an item that the node hears; none if it doesn't hear it.
use Rattle.std.proofs.Common.{◌∙◌, [], ap, sym, option_map, unwrap_or}
use Rattle.cpg_table.specs.Found.{row_columns}
use Rattle.cpg_table.proofs.RowColumns.{columns_in_row}
use Rattle.cpg_table.proofs.node_table.NodeTable.heard_columns.Goals as goal

-- the item has a row among the heard ones, whose columns are its columns
pub returns-in-Some : goal.returns-in-Some
returns-in-Some c = sym (columns_in_row c.args.item c.args.self.now.hears
    ∙ ap (λ rows. unwrap_or (row_columns rows c.args.item) []) (sym c.hears.ensures.hears)
    ∙ ap (λ o. unwrap_or o []) (sym c.row_columns.ensures ∙ ap (option_map (λ columns. columns.now)) c.in-Some.is))

-- the item has no row among the heard ones, so it has no columns
pub returns-in-None : goal.returns-in-None
returns-in-None c = sym (columns_in_row c.args.item c.args.self.now.hears
    ∙ ap (λ rows. unwrap_or (row_columns rows c.args.item) []) (sym c.hears.ensures.hears)
    ∙ ap (λ o. unwrap_or o []) (sym c.row_columns.ensures ∙ ap (option_map (λ columns. columns.now)) c.in-None.is))
