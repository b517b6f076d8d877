-- Loops of `excluded_cubes`: the cubes of those of an item's columns whose times a log excludes.
use Rattle.std.proofs.Common.{◌≡◌, map, take}
use Rattle.cpg_audit.specs.Excluded.{excluded_cubes}
use Rattle.cpg_audit.proofs.auditing.excluded_cubes.Given as goal

-- after each column, the list has the cubes of those columns so far whose times the log excludes
abbrev pub invariant-loop-column : goal.invariant-loop-column
invariant-loop-column l = map (λ b. b.now) l.by.items ≡ excluded_cubes l.until l.logged (take l.column-index l.columns)
