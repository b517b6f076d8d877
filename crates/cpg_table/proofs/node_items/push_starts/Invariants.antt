-- Loops of `push_starts`: adds the processes of a node.
use Rattle.std.proofs.Common.{◌≡◌, ◌==◌, ◌++◌, drop}
use Rattle.cpg_table.specs.Items.{numbers_where, starts_of}
use Rattle.cpg_table.proofs.node_items.push_starts.Given as goal

-- `counted`: the item is the start of the next process. `same`: the items pushed so far and the starts that are left
-- are the items of before and all starts
abbrev pub invariant-loop-process : goal.invariant-loop-process
invariant-loop-process l = record {
  counted : l.item ≡ l.process-index;
  same : l.items.items ++ numbers_where (λ p. p.node == l.node) l.item (drop l.process-index l.process-items)
      ≡ l.fn.items.items ++ starts_of l.head l.node;
}
