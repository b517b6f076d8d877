-- Loops of `totals`, which returns the totals of the columns.
use Rattle.std.proofs.Common.{◌≡◌, map, take}
use Rattle.cpg_merging.specs.Totals.{total_of}
use Rattle.cpg_merging.proofs.totals.totals.Given as goal

-- after each column, the list has the total of each column so far
abbrev pub invariant-loop-column : goal.invariant-loop-column
invariant-loop-column l = l.totals.items ≡ map total_of (map (λ b. b.now) (take l.column-index l.columns))
