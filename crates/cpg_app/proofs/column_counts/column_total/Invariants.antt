-- Loops of `column_total`, which returns how many columns all tables have, those of hear rows too.
use Rattle.std.proofs.Common.{◌≡◌, ◌+◌, drop}
use Rattle.cpg_app.specs.Trial.{columns_in}
use Rattle.cpg_app.proofs.column_counts.column_total.Given as goal

-- the count so far and the columns of the nodes left are together the columns of all nodes
abbrev pub invariant-loop-node : goal.invariant-loop-node
invariant-loop-node l = l.count + columns_in (drop l.node l.tables.nodes) ≡ columns_in l.tables.nodes
