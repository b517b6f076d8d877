-- Loops of `add_acts`: adds a part for each row of what a node starts or sends.
use Rattle.std.proofs.Common.{◌≡◌, ◌++◌, flat_map, take}
use Rattle.cpg_show.specs.NodeText.{act_row}
use Rattle.cpg_show.specs.Sheet.{part_text}
use Rattle.cpg_show.proofs.node.add_acts.Given as goal

-- the text of the parts is that of the parts before and then that of the rows so far
abbrev pub invariant-loop-row : goal.invariant-loop-row
invariant-loop-row l = flat_map (part_text l.labels) l.fn.parts.items
    ++ flat_map (act_row l.labels) (take l.row-index l.rows) ≡ flat_map (part_text l.labels) l.parts.items
