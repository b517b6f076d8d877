-- Loops of `put_processes`: the processes of a head, one after another.
use Rattle.std.proofs.Common.{◌≡◌, take}
use Rattle.std.specs.List.{flat_map}
use Rattle.cpg_codec.specs.Spelling.{written, process_bytes}
use Rattle.cpg_codec.specs.Writing.{IsPut}
use Rattle.cpg_codec.proofs.head_writing.put_processes.Given as goal

-- the bytes of the processes so far are put: the sink took some, the buffer holds the others, and no fault is new
abbrev pub invariant-loop-number : goal.invariant-loop-number
invariant-loop-number g l = record {
  put : IsPut (g.O.Sink.state l.fn.sink).taken (g.O.Sink.state l.sink).taken l.fn.buffer l.buffer
      (flat_map process_bytes (take l.number (written l.fn.head)));
  kept : (g.O.Sink.state l.sink).faults ≡ (g.O.Sink.state l.fn.sink).faults;
}
