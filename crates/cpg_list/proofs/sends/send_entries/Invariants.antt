-- Loops of `send_entries`: the entries of an item that a process sends, each in the least scenario of its cube; narrows
-- for each scenario what the queue leaves.
use Rattle.std.proofs.Common.{◌++◌, ◌∷◌, [], take}
use Rattle.cpg_order.specs.Queue.{queued_before}
use Rattle.cpg_list.specs.Made.{queued_by, AreCubesUpTo}
use Rattle.cpg_run.specs.Found.{columns_of_rows}
use Rattle.cpg_run.proofs.EntriesFound.{AreEntriesAmong}
use Rattle.cpg_list.proofs.sends.send_entries.Given as goal

-- `found`: the entries are those of the item in the scenarios so far. `carried`: in these scenarios the cube has also
-- what the item leaves to those behind it in the queue; in the others it has what the items before leave.
abbrev pub invariant-loop-at : goal.invariant-loop-at
invariant-loop-at l = record {
  found : AreEntriesAmong l.listed.admitted.now.graph l.listed.order.now l.listed.frozen.now
      (columns_of_rows l.rows) l.item (take l.at l.listed.scenarios.now) l.entries.items;
  carried : AreCubesUpTo l.listed.admitted.now.graph.faults l.listed.scenarios.now
      (queued_by l.listed.admitted.now.graph l.listed.order.now (columns_of_rows l.rows)
      (queued_before l.listed.admitted.now.graph l.listed.order.now l.item))
      (queued_by l.listed.admitted.now.graph l.listed.order.now (columns_of_rows l.rows)
      (queued_before l.listed.admitted.now.graph l.listed.order.now l.item ++ l.item ∷ [])) l.at
      l.queue-inside.cubes.items;
}
