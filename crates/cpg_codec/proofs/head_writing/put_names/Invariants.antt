-- Loops of `put_names`: names, one after another.
use Rattle.std.proofs.Common.{◌≡◌, take}
use Rattle.std.specs.List.{flat_map}
use Rattle.cpg_codec.specs.Spelling.{name_bytes}
use Rattle.cpg_codec.specs.Writing.{IsPut}
use Rattle.cpg_codec.proofs.head_writing.put_names.Given as goal

-- the bytes of the names so far are put: the sink took some, the buffer holds the others, and no fault is new
abbrev pub invariant-loop-name : goal.invariant-loop-name
invariant-loop-name g l = record {
  put : IsPut (g.O.Sink.state l.fn.sink).taken (g.O.Sink.state l.sink).taken l.fn.buffer l.buffer
      (flat_map name_bytes (take l.name-index l.fn.names));
  kept : (g.O.Sink.state l.sink).faults ≡ (g.O.Sink.state l.fn.sink).faults;
}
