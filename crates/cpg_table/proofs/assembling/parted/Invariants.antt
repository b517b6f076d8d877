-- Loops of `parted`: puts the rows of the items that a node starts and sends apart from the others.
use Rattle.std.proofs.Common.{◌≡◌, ◌<◌, ◌++◌, All}
use Rattle.cpg_base.specs.Graph.{item_count}
use Rattle.cpg_table.specs.Table.{Row}
use Rattle.cpg_table.specs.Writing.{own_rows, other_rows}
use Rattle.cpg_table.proofs.assembling.parted.Given as goal

-- `own`, `others`: the own rows of all are those taken so far and then those among the rows left; so are the others.
-- `known`: each row left is of an item of the graph
abbrev pub invariant-loop-row : goal.invariant-loop-row
invariant-loop-row l = record {
  own : own_rows l.problem l.node l.fn.rows.items ≡ l.own.items ++ own_rows l.problem l.node l.row-iterator.rest.items;
  others : other_rows l.problem l.node l.fn.rows.items ≡ l.others.items
      ++ other_rows l.problem l.node l.row-iterator.rest.items;
  known : All (λ (row : Row). row.item < item_count l.problem) l.row-iterator.rest.items;
}
