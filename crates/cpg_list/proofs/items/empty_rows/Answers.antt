-- Proof of `empty_rows`: a row without columns for each item of a graph, by number.
use Rattle.std.proofs.Common.{◌∙◌, ap, []}
use Rattle.cpg_base.proofs.Lists.{map_below_push}
use Rattle.cpg_table.specs.Table.{Row}
use Rattle.cpg_list.proofs.items.empty_rows.Goals as goal

-- the row that is added is that of the next item, without columns
pub loop-item-preserved : goal.loop-item-preserved
loop-item-preserved c = map_below_push (λ x. let row : Row = record { item = x; columns = [] } in row)
    c.loop-item.rows.items c.push.new.self.items c.in_ok-row.row c.loop-item.item c.loop-item.invariant
    (c.in_ok-row.ensures ∙ ap (λ cs. let row : Row = record { item = c.loop-item.item; columns = cs } in row)
    c.new.ensures.items) c.in_ok-push.ensures.items
