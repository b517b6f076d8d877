-- Loops of `unrolled_edges`, which returns the edges of all instances of all parts.
use Rattle.std.proofs.Common.{◌≡◌, ◌+◌, ◌++◌, length, drop}
use Rattle.cpg_hyper.specs.Unrolled.{edges_from, processes_from}
use Rattle.cpg_hyper.proofs.edges.unrolled_edges.Given as goal

-- `edges`: the edges of all parts are those listed so far, and then those of the parts that are left. `first`: the next
-- part's processes are numbered from `first` on, as the parts so far have that many.
abbrev pub invariant-loop-part : goal.invariant-loop-part
invariant-loop-part l = record {
  edges : edges_from l.whole 0 l.parts ≡ l.edges.items ++ edges_from l.whole l.first (drop l.part-index l.parts);
  first : length (processes_from l.whole 0 l.parts)
      ≡ l.first + length (processes_from l.whole l.part-index (drop l.part-index l.parts));
}
