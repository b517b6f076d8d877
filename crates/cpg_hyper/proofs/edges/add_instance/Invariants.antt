-- Loops of `add_instance`, which adds the edges of an instance whose first process has the number `first`.
use Rattle.std.proofs.Common.{◌≡◌, ◌++◌, map, take}
use Rattle.cpg_hyper.specs.Unrolled.{copied_edge}
use Rattle.cpg_hyper.proofs.edges.add_instance.Given as goal

-- after each edge, the list has the edges from before and a copy of each edge so far
abbrev pub invariant-loop-edge : goal.invariant-loop-edge
invariant-loop-edge l = l.out.items ≡ l.fn.out.items ++ map (copied_edge l.first) (take l.edge-index l.edge-items)
