-- Loops of `own_of`: what a node needs to know of its own processes.
use Rattle.std.proofs.Common.{◌≡◌, ◌≤◌, ◌++◌, drop}
use Rattle.cpg_table.specs.Items.{own_from, own_of}
use Rattle.cpg_table.proofs.own.own_of.Given as goal

-- `counted`, `few`: the next process's number, and no more conditions than processes. `same`: the node's own list is
-- the list so far and then that of the processes that are left
abbrev pub invariant-loop-process : goal.invariant-loop-process
invariant-loop-process l = record {
  counted : l.number ≡ l.process-index;
  few : l.condition ≤ l.process-index;
  same : own_of l.head l.node ≡ l.own.items
      ++ own_from l.node l.number l.condition (drop l.process-index l.process-items);
}
