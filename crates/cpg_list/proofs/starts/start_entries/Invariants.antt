-- Loops of `start_entries`: the entries of the start of a process, each in the least scenario of its cube; narrows for
-- each scenario what the node carries on.
use Rattle.std.proofs.Common.{◌++◌, ◌∷◌, [], take}
use Rattle.cpg_base.specs.Order.{before_on_node}
use Rattle.cpg_list.specs.Made.{passed_by, AreCubesUpTo}
use Rattle.cpg_run.specs.Found.{columns_of_rows}
use Rattle.cpg_run.proofs.EntriesFound.{AreEntriesAmong}
use Rattle.cpg_list.proofs.starts.start_entries.Given as goal

-- `found`: the entries are those of the process's start in the scenarios so far. `carried`: in these scenarios the
-- cube has also what the process leaves to those after it on its node; in the others it has what the processes before
-- leave.
abbrev pub invariant-loop-at : goal.invariant-loop-at
invariant-loop-at l = record {
  found : AreEntriesAmong l.listed.admitted.now.graph l.listed.order.now l.listed.frozen.now
      (columns_of_rows l.rows) l.process (take l.at l.listed.scenarios.now) l.entries.items;
  carried : AreCubesUpTo l.listed.admitted.now.graph.faults l.listed.scenarios.now
      (passed_by l.listed.admitted.now.graph (columns_of_rows l.rows)
      (before_on_node l.listed.admitted.now.graph l.listed.order.now l.process))
      (passed_by l.listed.admitted.now.graph (columns_of_rows l.rows) (before_on_node l.listed.admitted.now.graph
      l.listed.order.now l.process ++ l.process ∷ [])) l.at l.known-inside.cubes.items;
}
