-- Loops of `demands`, which returns the demands of the columns.
use Rattle.std.proofs.Common.{◌≡◌, map, take}
use Rattle.cpg_merging.specs.Demands.{demand_of}
use Rattle.cpg_merging.proofs.demands.demands.Given as goal

-- after each column, the list has the demand of each column so far
abbrev pub invariant-loop-column : goal.invariant-loop-column
invariant-loop-column l = l.demands.items ≡ map demand_of (take l.column-index l.columns)
