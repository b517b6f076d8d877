-- Loops of `edge_total`, which returns how many edges there are in all instances.
use Rattle.std.proofs.Common.{◌≡◌, ◌≤◌, ◌+◌, ◌*◌, length, drop}
use Rattle.cpg_hyper.specs.Unrolled.{edges_from}
use Rattle.cpg_hyper.proofs.edges.edge_total.Given as goal

-- `total`: the edges of all parts are those counted so far and those of the parts that are left. `short`: each part adds at
-- most 256 edges in each of 10^9 instances, so the sum can't overflow.
abbrev pub invariant-loop-part : goal.invariant-loop-part
invariant-loop-part l = record {
  total : length (edges_from l.whole 0 l.parts) ≡ l.total + length (edges_from l.whole 0 (drop l.part-index l.parts));
  short : l.total ≤ l.part-index * 256000000000;
}
