-- Loops of `put_columns`, which puts the lines of columns, one after another.
use Rattle.std.proofs.Common.{◌≡◌, take}
use Rattle.std.specs.List.{flat_map}
use Rattle.cpg_label.specs.CubeText.{column_line}
use Rattle.cpg_label.specs.Lines.{IsLine}
use Rattle.cpg_codec.specs.Writing.{IsPut}
use Rattle.cpg_show.proofs.putting.put_columns.Given as goal

-- `put`: the lines of the columns so far are put. `kept`: no fault is new. `line`: it is still a line under these labels.
abbrev pub invariant-loop-column : goal.invariant-loop-column
invariant-loop-column g l = record {
  put : IsPut (g.O.Sink.state l.fn.sink).taken (g.O.Sink.state l.sink).taken l.fn.buffer l.buffer
      (flat_map (column_line l.labels) (take l.column-index l.fn.columns));
  kept : (g.O.Sink.state l.sink).faults ≡ (g.O.Sink.state l.fn.sink).faults;
  line : IsLine l.labels l.line;
}
