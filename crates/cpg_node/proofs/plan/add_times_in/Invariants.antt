-- Loops of `add_times_in`: adds the times of rows.
use Rattle.std.proofs.Common.{◌≡◌, ◌++◌, drop}
use Rattle.cpg_node.specs.Dispatcher.{times_in}
use Rattle.cpg_node.proofs.plan.add_times_in.Given as goal

-- the times so far and those in the rows left are together the times before and those in all rows
abbrev pub invariant-loop-row : goal.invariant-loop-row
invariant-loop-row l = l.times.items ++ times_in (drop l.row-index l.rows) ≡ l.fn.times.items ++ times_in l.rows
