-- Loops of `put_times`: times, one after another.
use Rattle.std.proofs.Common.{◌≡◌, take}
use Rattle.std.specs.List.{flat_map}
use Rattle.std.specs.Int.{w64, to_be_bytes}
use Rattle.cpg_codec.specs.Writing.{IsPut}
use Rattle.cpg_codec.proofs.head_writing.put_times.Given as goal

-- the bytes of the times so far are put: the sink took some, the buffer holds the others, and no fault is new
abbrev pub invariant-loop-time : goal.invariant-loop-time
invariant-loop-time g l = record {
  put : IsPut (g.O.Sink.state l.fn.sink).taken (g.O.Sink.state l.sink).taken l.fn.buffer l.buffer
      (flat_map (to_be_bytes w64) (take l.time-index l.fn.times));
  kept : (g.O.Sink.state l.sink).faults ≡ (g.O.Sink.state l.fn.sink).faults;
}
