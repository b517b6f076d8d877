-- Proof of `tables_in`, which returns the tables of an array, or `None` if an element isn't a table.
use Rattle.std.proofs.Common.{◌∙◌, [], ◌∷◌, map, ap}
use Rattle.std.proofs.lemmas.List.{map-append}
use Rattle.toml.specs.Data.{as_table}
use Rattle.toml.specs.View.{table_view, items_view}
use Rattle.cpg_reader.specs.Rows.{items_as}
use Rattle.cpg_reader.proofs.Items.{goes_on, stops}
use Rattle.cpg_reader.proofs.row.tables_in.Goals as goal

-- one more element is a table
pub loop-element-preserved : goal.loop-element-preserved
loop-element-preserved c =
    let one = rw c.in-Some.is at c.as_table.ensures in
    rw (
      c.in_ok-push.ensures.items,
      map-append (λ t. table_view t.now) c.loop-element.tables.items (c.in-Some.table ∷ []),
    )
    (goes_on as_table c.deref-element-items.result.now c.loop-element.element-index c.element-item.result
    (map (λ t. table_view t.now) c.loop-element.tables.items) _
    c.loop-element-test.true c.element-item.is c.loop-element.invariant (table_view c.in-Some.table.now) one)

-- this element is no table, so the array isn't one of tables
pub returns-in_default : goal.returns-in_default
returns-in_default c =
    stops as_table c.deref-element-items.result.now c.loop-element.element-index c.element-item.result
    (map (λ t. table_view t.now) c.loop-element.tables.items) _
    c.loop-element-test.true c.element-item.is c.loop-element.invariant c.in_default.ensures
    ∙ ap (λ vs. items_as as_table (items_view vs)) c.deref-element-items.ensures.value
