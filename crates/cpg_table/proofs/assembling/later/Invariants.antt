-- Loops of `later`: the columns, each later by a delay.
use Rattle.std.proofs.Common.{◌≡◌, map, take}
use Rattle.cpg_table.specs.Valid.{later_by}
use Rattle.cpg_table.proofs.assembling.later.Given as goal

-- the list has each column so far, later by the delay
abbrev pub invariant-loop-column : goal.invariant-loop-column
invariant-loop-column l = l.later.items ≡ map (later_by l.delay) (take l.column-index l.columns)
