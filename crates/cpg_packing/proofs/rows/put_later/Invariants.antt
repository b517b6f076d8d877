-- Loops of `put_later`, which puts columns, one after another, each later by a delay.
use Rattle.std.proofs.Common.{◌≡◌, [], take}
use Rattle.std.specs.List.{flat_map}
use Rattle.cpg_codec.specs.Writing.{IsPut}
use Rattle.cpg_packing.specs.PackBytes.{later_bytes}
use Rattle.cpg_packing.proofs.rows.put_later.Given as goal

-- the columns so far are put, each later by the delay, and no fault is new
abbrev pub invariant-loop-column : goal.invariant-loop-column
invariant-loop-column g l = record {
  put : IsPut (g.O.Sink.state l.fn.sink).taken (g.O.Sink.state l.sink).taken l.fn.buffer l.buffer
      (later_bytes l.delay (take l.column-index l.fn.columns));
  kept : (g.O.Sink.state l.sink).faults ≡ (g.O.Sink.state l.fn.sink).faults;
}
