-- Loops of `parts_of`, which returns a part for each item that is started or sent, by number.
use Rattle.std.proofs.Common.{◌≡◌, flat_map}
use Rattle.cpg_base.specs.Numbers.{numbers_below}
use Rattle.cpg_show.specs.Sheet.{part_text}
use Rattle.cpg_show.specs.TableText.{lines_of_row}
use Rattle.cpg_show.proofs.table.parts_of.Given as goal

-- the text of the parts is the lines of the items so far
abbrev pub invariant-loop-item : goal.invariant-loop-item
invariant-loop-item l =
    flat_map (lines_of_row l.problem l.rows) (numbers_below l.item) ≡ flat_map (part_text l.labels) l.parts.items
