-- Loops of `total_by`, which returns the total of a time and literals: their hashes, added up.
use Rattle.std.proofs.Common.{◌≡◌, ◌+◌, ◌%◌, ◌^◌, take, sum_by}
use Rattle.cpg_merging.specs.Totals.{hash_of, mixed}
use Rattle.cpg_merging.proofs.totals.total_by.Given as goal

-- after each literal, `total` is the time's part and the sum of the hashes of the literals so far, modulo 2 ^ 64
abbrev pub invariant-loop-literal : goal.invariant-loop-literal
invariant-loop-literal l = l.total ≡ (mixed 0 l.time + sum_by hash_of (take l.literal-index l.literals)) % 2 ^ 64
