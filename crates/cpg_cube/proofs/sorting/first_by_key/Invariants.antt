-- Loops of `first_by_key`, which returns the place of the first column with the least key; `None` exactly if there is
-- no column.
use Rattle.cpg_cube.proofs.KeyOrder.{IsBest}
use Rattle.cpg_cube.proofs.sorting.first_by_key.Given as goal

-- `best` has the place and the key of the first by key among the columns so far
abbrev pub invariant-loop-place : goal.invariant-loop-place
invariant-loop-place g l = IsBest g.T.Cubed.cubed l.columns l.variables l.place l.best
