-- Proof of `Tables::columns_of`: the columns of an item's start row or send row; none if it has no row.
use Rattle.std.proofs.Common.{rules, ◌≡◌, ◌<◌, List, length, get_or, Some, None, ◌∙◌, ap, subst}
use Rattle.std.proofs.lemmas.List.{get_or_default}
use Rattle.cpg_table.specs.Table.{NodeTable, empty_table, table_at}
use Rattle.cpg_table.specs.Found.{row_columns}
use Rattle.cpg_table.specs.Lawful.{Tables}
use Rattle.cpg_table.proofs.RowColumns.{found_start, found_send, found_none}
use Rattle.cpg_table.proofs.tables.Tables.columns_of.Goals as goal

-- this table has a start row of the item
pub returns-in-Some-clause-columns : goal.returns-in-Some-clause-columns
returns-in-Some-clause-columns c =
    let ts = c.args.self.now.nodes in
    let index = c.loop-table.table-index in
    let same = c.as_slice-table-items.ensures.value ∙ ap (λ (t : Tables). t.nodes) c.self.view_is in
    let within : index < length ts = subst (λ (xs : List NodeTable). index < length xs) same c.loop-table-test.true in
    let table : c.table-item.result ≡ table_at ts index =
    c.table-item.is ∙ ap (λ xs. get_or xs index c.table-item.result) same
    ∙ get_or_default ts index c.table-item.result empty_table within in
    let found : row_columns c.table-item.result.starts c.args.item ≡ Some c.in-Some.columns.now = search rules in
    found_start c.args.item ts index within c.loop-table.invariant c.in-Some.columns.now
    (subst (λ (t : NodeTable). row_columns t.starts c.args.item ≡ Some c.in-Some.columns.now) table found)

-- this table has no start row of the item, but a send row
pub returns-in-Some-row_columns-clause-columns : goal.returns-in-Some-row_columns-clause-columns
returns-in-Some-row_columns-clause-columns c =
    let ts = c.args.self.now.nodes in
    let index = c.loop-table.table-index in
    let same = c.as_slice-table-items.ensures.value ∙ ap (λ (t : Tables). t.nodes) c.self.view_is in
    let within : index < length ts = subst (λ (xs : List NodeTable). index < length xs) same c.loop-table-test.true in
    let table : c.table-item.result ≡ table_at ts index =
    c.table-item.is ∙ ap (λ xs. get_or xs index c.table-item.result) same
    ∙ get_or_default ts index c.table-item.result empty_table within in
    let none : row_columns c.table-item.result.starts c.args.item ≡ None = search rules in
    let found : row_columns c.table-item.result.sends c.args.item ≡ Some c.in-Some-row_columns.columns.now =
    search rules in
    found_send c.args.item ts index within c.loop-table.invariant c.in-Some-row_columns.columns.now
    (subst (λ (t : NodeTable). row_columns t.starts c.args.item ≡ None) table none)
    (subst (λ (t : NodeTable). row_columns t.sends c.args.item ≡ Some c.in-Some-row_columns.columns.now) table found)

-- this table has no row of the item, so its columns are found further on
pub loop-table-preserved : goal.loop-table-preserved
loop-table-preserved c =
    let ts = c.args.self.now.nodes in
    let index = c.loop-table.table-index in
    let same = c.as_slice-table-items.ensures.value ∙ ap (λ (t : Tables). t.nodes) c.self.view_is in
    let within : index < length ts = subst (λ (xs : List NodeTable). index < length xs) same c.loop-table-test.true in
    let table : c.table-item.result ≡ table_at ts index =
    c.table-item.is ∙ ap (λ xs. get_or xs index c.table-item.result) same
    ∙ get_or_default ts index c.table-item.result empty_table within in
    let none : row_columns c.table-item.result.starts c.args.item ≡ None = search rules in
    let none_sent : row_columns c.table-item.result.sends c.args.item ≡ None = search rules in
    found_none c.args.item ts index within c.loop-table.invariant
    (subst (λ (t : NodeTable). row_columns t.starts c.args.item ≡ None) table none)
    (subst (λ (t : NodeTable). row_columns t.sends c.args.item ≡ None) table none_sent)
