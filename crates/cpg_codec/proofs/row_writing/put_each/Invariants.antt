-- Loops of `put_each`, which puts literals, one after another.
use Rattle.std.proofs.Common.{◌≡◌, take}
use Rattle.std.specs.List.{flat_map}
use Rattle.cpg_codec.specs.Spelling.{literal_bytes}
use Rattle.cpg_codec.specs.Writing.{IsPut}
use Rattle.cpg_codec.proofs.row_writing.put_each.Given as goal

-- the bytes of the literals so far are put: the sink took some, the buffer holds the others, and no fault is new
abbrev pub invariant-loop-literal : goal.invariant-loop-literal
invariant-loop-literal g l = record {
  put : IsPut (g.O.Sink.state l.fn.sink).taken (g.O.Sink.state l.sink).taken l.fn.buffer l.buffer
      (flat_map literal_bytes (take l.literal-index l.fn.literals));
  kept : (g.O.Sink.state l.sink).faults ≡ (g.O.Sink.state l.fn.sink).faults;
}
