-- Loops of `after_broadcasts`: the rows after those of the broadcasts of a node's own conditions, or of the other
-- nodes'.
use Rattle.std.proofs.Common.{◌≡◌, ◌≤◌, ◌+◌, ◌==◌, not, if◌then◌else◌, drop, filter}
use Rattle.cpg_table.specs.Items.{numbers_where, first_broadcast, conditioned, after_items}
use Rattle.cpg_table.proofs.items.after_broadcasts.Given as goal

-- `few`: the number of the next broadcast can't overflow. `same`: the rows after all broadcasts are the rows after
-- those that are left, from `rest` on
abbrev pub invariant-loop-process : goal.invariant-loop-process
invariant-loop-process l = record {
  few : l.item ≤ first_broadcast l.head + l.process-index;
  same : after_items (numbers_where (λ p. if l.own then p.node == l.node else not (p.node == l.node))
      (first_broadcast l.head) (conditioned l.head)) l.fn.rows
      ≡ after_items (numbers_where (λ p. if l.own then p.node == l.node else not (p.node == l.node)) l.item
      (filter (λ p. p.condition) (drop l.process-index l.process-items))) l.rest;
}
