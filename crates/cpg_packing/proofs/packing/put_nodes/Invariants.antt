-- Loops of `put_nodes`, which puts the rows of each node, one after another.
use Rattle.std.proofs.Common.{◌≡◌, [], take}
use Rattle.std.specs.List.{flat_map}
use Rattle.cpg_codec.specs.Writing.{IsPut}
use Rattle.cpg_packing.specs.PackBytes.{node_bytes}
use Rattle.cpg_packing.proofs.packing.put_nodes.Given as goal

-- the rows of the nodes so far are put, no fault is new, and the path is back at the root
abbrev pub invariant-loop-items : goal.invariant-loop-items
invariant-loop-items g l = record {
  put : IsPut (g.O.Sink.state l.fn.sink).taken (g.O.Sink.state l.sink).taken l.fn.buffer l.buffer
      (flat_map (node_bytes l.fn.problem l.fn.rows) (take l.items-index l.fn.nodes));
  kept : (g.O.Sink.state l.sink).faults ≡ (g.O.Sink.state l.fn.sink).faults;
  path : l.path ≡ [];
}
