-- Loops of `senders_of`, which returns the node that sends the item of each row.
use Rattle.std.proofs.Common.{◌≡◌, map, take}
use Rattle.cpg_base.specs.Graph.{home}
use Rattle.cpg_table.specs.Table.{Row}
use Rattle.cpg_cluster.proofs.senders.senders_of.Given as goal

-- the senders so far are the homes of the items of the rows so far
abbrev pub invariant-loop-row : goal.invariant-loop-row
invariant-loop-row l = l.senders.items ≡ map (λ (row : Row). home l.problem row.item) (take l.row-index l.rows)
