-- Loops of `shorn_copies`, which returns copies of the columns without the literals that have the whole range of their
-- variable.
use Rattle.std.proofs.Common.{◌≡◌, take}
use Rattle.cpg_merging.specs.Merging.{all_shorn}
use Rattle.cpg_merging.proofs.joins.shorn_copies.Given as goal

-- after each column, the list has each column so far with its cube shorn
abbrev pub invariant-loop-column : goal.invariant-loop-column
invariant-loop-column l = l.shorn.items ≡ all_shorn l.faults (take l.column-index l.columns)
