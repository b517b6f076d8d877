-- Loops of `put_heard`, which puts the rows of items at a node that hears them, each later by the sender's slot.
use Rattle.std.proofs.Common.{◌≡◌, [], take}
use Rattle.std.specs.List.{flat_map}
use Rattle.cpg_codec.specs.Writing.{IsPut}
use Rattle.cpg_packing.specs.PackBytes.{heard_bytes}
use Rattle.cpg_packing.proofs.items.put_heard.Given as goal

-- the heard rows of the items so far are put, no fault is new, and the path is back at the root
abbrev pub invariant-loop-item : goal.invariant-loop-item
invariant-loop-item g l = record {
  put : IsPut (g.O.Sink.state l.fn.sink).taken (g.O.Sink.state l.sink).taken l.fn.buffer l.buffer
      (flat_map (heard_bytes l.fn.problem l.fn.rows) (take l.item-index l.fn.items));
  kept : (g.O.Sink.state l.sink).faults ≡ (g.O.Sink.state l.fn.sink).faults;
  path : l.path ≡ [];
}
