-- Loops of `to_rows`: the rows as tables have them.
use Rattle.std.proofs.Common.{◌≡◌, take}
use Rattle.cpg_list.proofs.timed.to_rows.Given as goal

-- the copy has the rows so far
abbrev pub invariant-loop-row : goal.invariant-loop-row
invariant-loop-row l = l.copy.items ≡ take l.row-index l.rows
