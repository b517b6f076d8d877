-- Loops of `put_edges`: edges, one after another.
use Rattle.std.proofs.Common.{◌≡◌, take}
use Rattle.std.specs.List.{flat_map}
use Rattle.cpg_codec.specs.Spelling.{edge_bytes}
use Rattle.cpg_codec.specs.Writing.{IsPut}
use Rattle.cpg_codec.proofs.head_writing.put_edges.Given as goal

-- the bytes of the edges so far are put: the sink took some, the buffer holds the others, and no fault is new
abbrev pub invariant-loop-from : goal.invariant-loop-from
invariant-loop-from g l = record {
  put : IsPut (g.O.Sink.state l.fn.sink).taken (g.O.Sink.state l.sink).taken l.fn.buffer l.buffer
      (flat_map edge_bytes (take l.from-index l.fn.edges));
  kept : (g.O.Sink.state l.sink).faults ≡ (g.O.Sink.state l.fn.sink).faults;
}
