-- Loops of `read_parts`, which reads the graphs of parts, one after the other, and returns them with their periods.
use Rattle.std.proofs.Common.{take, None}
use Rattle.cpg_io.specs.Shelf.{KeepsShelf, SameAccess}
use Rattle.cpg_inputs.specs.Files.{part_files}
use Rattle.cpg_inputs.specs.Reading.{Reads}
use Rattle.cpg_inputs.specs.Shapes.{HavePeriods, part_values}
use Rattle.cpg_inputs.proofs.reading.read_parts.Given as goal

-- `keeps`, `access`: the shelf still has its files, and the same of them may be fetched. `read`: the files of the
-- pairs so far were read in order, with the values of the parts. `periods`: the parts have the periods of their
-- pairs.
abbrev pub invariant-loop-pair : goal.invariant-loop-pair
invariant-loop-pair g l = record {
  keeps : KeepsShelf (g.S.Shelf.state l.fn.shelf) (g.S.Shelf.state l.shelf);
  access : SameAccess (g.S.Shelf.may_fetch l.fn.shelf) (g.S.Shelf.may_fetch l.shelf);
  read : Reads None (part_files (take l.pair-index l.pairs)) (g.S.Shelf.state l.fn.shelf).history
      (g.S.Shelf.state l.shelf).history (part_values l.parts.items);
  periods : HavePeriods (take l.pair-index l.pairs) l.parts.items;
}
