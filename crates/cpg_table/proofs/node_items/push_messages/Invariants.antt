-- Loops of `push_messages`: adds the messages from a node to others, or to it from others.
use Rattle.std.proofs.Common.{◌≡◌, ◌+◌, ◌++◌, if◌then◌else◌, drop}
use Rattle.cpg_table.specs.Items.{numbers_where, leaves, enters, first_message}
use Rattle.cpg_table.proofs.node_items.push_messages.Given as goal

-- `counted`: the item is the message of the next edge. `same`: the items pushed so far and the messages that are left
-- are the items of before and all messages
abbrev pub invariant-loop-edge : goal.invariant-loop-edge
invariant-loop-edge l = record {
  counted : l.item ≡ first_message l.head + l.edge-index;
  same : l.items.items ++ numbers_where (λ e. if l.out then leaves l.head l.node e else enters l.head l.node e) l.item
      (drop l.edge-index l.edge-items)
      ≡ l.fn.items.items ++ numbers_where (λ e. if l.out then leaves l.head l.node e else enters l.head l.node e)
      (first_message l.head) l.head.edges;
}
