-- Loops of `head_edges`, which returns for each edge the processes that it leads from and to.
use Rattle.std.proofs.Common.{◌≡◌, map, take}
use Rattle.cpg_head.proofs.graph_head.head_edges.Given as goal

-- the list has the two ends of each edge so far
abbrev pub invariant-loop-edge : goal.invariant-loop-edge
invariant-loop-edge l = l.ends.items ≡ map (λ e. (e.from, e.to)) (take l.edge-index l.edges)
