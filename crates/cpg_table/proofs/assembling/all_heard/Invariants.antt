-- Loops of `all_heard`: the rows of some items at a node that hears them.
use Rattle.std.proofs.Common.{◌≡◌, map, take}
use Rattle.cpg_table.specs.Writing.{heard_row}
use Rattle.cpg_table.proofs.assembling.all_heard.Given as goal

-- the list has the heard row of each item so far
abbrev pub invariant-loop-item : goal.invariant-loop-item
invariant-loop-item l = l.all.items ≡ map (heard_row l.problem l.rows) (take l.item-index l.items)
