-- Loops of `after_messages`: the rows after those of the messages from a node to others, or to it from others.
use Rattle.std.proofs.Common.{◌≡◌, ◌+◌, if◌then◌else◌, drop}
use Rattle.cpg_table.specs.Items.{numbers_where, leaves, enters, first_message, after_items}
use Rattle.cpg_table.proofs.items.after_messages.Given as goal

-- `counted`: the item is the message of the next edge. `same`: the rows after all messages are the rows after those
-- that are left, from `rest` on
abbrev pub invariant-loop-edge : goal.invariant-loop-edge
invariant-loop-edge l = record {
  counted : l.item ≡ first_message l.head + l.edge-index;
  same : after_items (numbers_where (λ e. if l.out then leaves l.head l.node e else enters l.head l.node e)
      (first_message l.head) l.head.edges) l.fn.rows
      ≡ after_items (numbers_where (λ e. if l.out then leaves l.head l.node e else enters l.head l.node e) l.item
      (drop l.edge-index l.edge-items)) l.rest;
}
