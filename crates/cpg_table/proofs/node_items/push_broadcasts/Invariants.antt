-- Loops of `push_broadcasts`: adds the broadcasts of a node's own conditions, or of the other nodes'.
use Rattle.std.proofs.Common.{◌≡◌, ◌≤◌, ◌+◌, ◌++◌, ◌==◌, not, if◌then◌else◌, drop, filter}
use Rattle.cpg_table.specs.Items.{numbers_where, first_broadcast, conditioned}
use Rattle.cpg_table.proofs.node_items.push_broadcasts.Given as goal

-- `few`: the number of the next broadcast can't overflow. `same`: the items pushed so far and the broadcasts that are
-- left are the items of before and all broadcasts
abbrev pub invariant-loop-process : goal.invariant-loop-process
invariant-loop-process l = record {
  few : l.item ≤ first_broadcast l.head + l.process-index;
  same : l.items.items ++ numbers_where (λ p. if l.own then p.node == l.node else not (p.node == l.node)) l.item
      (filter (λ p. p.condition) (drop l.process-index l.process-items))
      ≡ l.fn.items.items ++ numbers_where (λ p. if l.own then p.node == l.node else not (p.node == l.node))
      (first_broadcast l.head) (conditioned l.head);
}
