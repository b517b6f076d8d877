-- Loops of `edge_ends`: the ends of edges.
use Rattle.std.proofs.Common.{◌≡◌, map, take}
use Rattle.cpg_label.proofs.labels.edge_ends.Given as goal

-- the list has the two ends of each edge so far
abbrev pub invariant-loop-edge : goal.invariant-loop-edge
invariant-loop-edge l = l.ends.items ≡ map (λ e. (e.from, e.to)) (take l.edge-index l.edges)
