-- Loops of `is_own_of`: whether `own` is what a node needs to know of its own processes.
use Rattle.std.proofs.Common.{◌≡◌, ◌≤◌, drop}
use Rattle.cpg_table.specs.Items.{own_from, own_of}
use Rattle.cpg_table.proofs.own.is_own_of.Given as goal

-- `counted`, `few`: the next process's number, and no more conditions than processes. `on`, `back`: the given list is
-- the node's own exactly if its rest is the own list of the processes that are left
abbrev pub invariant-loop-process : goal.invariant-loop-process
invariant-loop-process l = record {
  counted : l.number ≡ l.process-index;
  few : l.condition ≤ l.process-index;
  on : l.fn.own ≡ own_of l.head l.node →
      l.rest ≡ own_from l.node l.number l.condition (drop l.process-index l.process-items);
  back : l.rest ≡ own_from l.node l.number l.condition (drop l.process-index l.process-items) →
      l.fn.own ≡ own_of l.head l.node;
}
