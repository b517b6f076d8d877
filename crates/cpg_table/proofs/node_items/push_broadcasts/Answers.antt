-- Proof of `push_broadcasts`: adds the broadcasts of a node's own conditions, or of the other nodes'.
use Rattle.std.proofs.Common.{◌==◌, not, if◌then◌else◌}
use Rattle.cpg_head.specs.declared.head_parts.HeadProcess.{HeadProcess}
use Rattle.cpg_table.specs.Items.{first_broadcast}
use Rattle.cpg_table.proofs.Broadcasts.{few_on, broadcasts_on}
use Rattle.cpg_table.proofs.node_items.push_broadcasts.Goals as goal

-- `few`: the number rises by one at most. `same`: the broadcast of this process is added if it is wanted, and the next
-- number goes on if it has a condition
pub loop-process-preserved : goal.loop-process-preserved
loop-process-preserved c = record {
  few = rw c.next_number-item.ensures (few_on c.process-item.result.condition c.loop-process.item
      (first_broadcast c.args.head.now) c.loop-process.process-index c.loop-process.invariant.few);
  same = broadcasts_on (λ (p : HeadProcess). if c.args.own then p.node == c.args.node else not (p.node == c.args.node))
      c.processes-process-items.result.now c.loop-process.process-index
      c.loop-process.item c.next_number-item.result c.process-item.result c.is_wanted.result
      c.loop-process.items.items c.push_if.new.items.items _ c.process-item.is c.loop-process-test.true
      c.is_wanted.ensures c.in_ok-push_if.ensures c.next_number-item.ensures
      c.loop-process.invariant.same;
}
