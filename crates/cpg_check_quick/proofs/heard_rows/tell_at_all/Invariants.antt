-- Loops of `tell_at_all`: whether there is a column at each of these places, and one of its literals implies the wanted
-- one.
use Rattle.std.proofs.Common.{All, take}
use Rattle.cpg_cube.specs.Column.{column_at}
use Rattle.cpg_check_quick.specs.HeardRows.{IsToldIn}
use Rattle.cpg_check_quick.proofs.heard_rows.tell_at_all.Given as goal

-- the column at each place so far implies the wanted literal
abbrev pub invariant-loop-place : goal.invariant-loop-place
invariant-loop-place l = All (λ i. IsToldIn (column_at l.columns i).cube l.wanted) (take l.place-index l.places)
