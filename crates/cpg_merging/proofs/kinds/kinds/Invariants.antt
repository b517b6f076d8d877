-- Loops of `kinds`, which returns the kinds of the columns.
use Rattle.std.proofs.Common.{◌≡◌, map, take}
use Rattle.cpg_merging.specs.Kinds.{kind_of}
use Rattle.cpg_merging.proofs.kinds.kinds.Given as goal

-- after each column, the list has the kind of each column so far
abbrev pub invariant-loop-column : goal.invariant-loop-column
invariant-loop-column l = l.kinds.items ≡ map kind_of (take l.column-index l.columns)
