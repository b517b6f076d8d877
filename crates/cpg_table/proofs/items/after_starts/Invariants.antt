-- Loops of `after_starts`: the rows after those of the items that a node starts, or `None` if other rows stand
-- there.
use Rattle.std.proofs.Common.{◌≡◌, ◌==◌, drop}
use Rattle.cpg_table.specs.Items.{numbers_where, starts_of, after_items}
use Rattle.cpg_table.proofs.items.after_starts.Given as goal

-- `counted`: the item is the start of the next process. `same`: the rows after all starts are the rows after those
-- that are left, from `rest` on
abbrev pub invariant-loop-process : goal.invariant-loop-process
invariant-loop-process l = record {
  counted : l.item ≡ l.process-index;
  same : after_items (starts_of l.head l.node) l.fn.rows
      ≡ after_items (numbers_where (λ p. p.node == l.node) l.item (drop l.process-index l.process-items)) l.rest;
}
