-- Loops of `put_sheet_parts`, which puts the parts of a sheet, one after another.
use Rattle.std.proofs.Common.{◌≡◌, [], take}
use Rattle.std.specs.List.{flat_map}
use Rattle.cpg_label.specs.Lines.{IsLine}
use Rattle.cpg_show.specs.Sheet.{part_text}
use Rattle.cpg_codec.specs.Writing.{IsPut}
use Rattle.cpg_show.proofs.sheet.put_sheet_parts.Given as goal

-- `put`: the text of the parts so far is put. `kept`: no fault is new. `line`: it is still a line under these labels.
-- `path`: the path is at the root again.
abbrev pub invariant-loop-part : goal.invariant-loop-part
invariant-loop-part g l = record {
  put : IsPut (g.O.Sink.state l.fn.sink).taken (g.O.Sink.state l.sink).taken l.fn.buffer l.buffer
      (flat_map (part_text l.labels) (take l.part-index l.fn.parts));
  kept : (g.O.Sink.state l.sink).faults ≡ (g.O.Sink.state l.fn.sink).faults;
  line : IsLine l.labels l.line;
  path : l.path ≡ [];
}
