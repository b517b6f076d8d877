-- Loops of `kind_by`, which returns the kind of a column with this time and these literals.
use Rattle.std.proofs.Common.{◌≡◌, ◌%◌, take, sum_by}
use Rattle.cpg_merging.specs.Demands.{low_of}
use Rattle.cpg_merging.specs.Kinds.{variable_of}
use Rattle.cpg_merging.proofs.kinds.kind_by.Given as goal

-- after each literal, `variables` and `asked` are the sums of the variables and of the lows of the literals so far, both
-- modulo 256
abbrev pub invariant-loop-literal : goal.invariant-loop-literal
invariant-loop-literal l = record {
  variables : l.variables ≡ sum_by variable_of (take l.literal-index l.literals) % 256;
  asked : l.asked ≡ sum_by low_of (take l.literal-index l.literals) % 256;
}
