-- Loops of `node_table`: the table of a node.
use Rattle.std.proofs.Common.{◌≡◌, ◌++◌}
use Rattle.cpg_table.proofs.assembling.node_table.Given as goal

-- the node's own rows and then those that it hears are the rows taken so far, and then those that are left
abbrev pub invariant-loop-row : goal.invariant-loop-row
invariant-loop-row l = l.fn.own.items ++ l.fn.hears.items ≡ l.rows.items ++ l.row-iterator.rest.items
