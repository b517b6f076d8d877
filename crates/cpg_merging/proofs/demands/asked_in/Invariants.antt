-- Loops of `asked_in`, which returns how much these literals ask: the sum of their lows, as a byte.
use Rattle.std.proofs.Common.{◌≡◌, ◌%◌, take, sum_by}
use Rattle.cpg_merging.specs.Demands.{low_of}
use Rattle.cpg_merging.proofs.demands.asked_in.Given as goal

-- after each literal, `asked` is the sum of the lows of the literals so far, modulo 256
abbrev pub invariant-loop-literal : goal.invariant-loop-literal
invariant-loop-literal l = l.asked ≡ sum_by low_of (take l.literal-index l.literals) % 256
