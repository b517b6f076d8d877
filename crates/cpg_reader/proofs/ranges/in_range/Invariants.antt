-- Loops of `in_range`, which refuses numbers of which one is out of range.
use Rattle.std.proofs.Common.{◌≡◌, drop}
use Rattle.cpg_reader.specs.Ranges.{in_range}
use Rattle.cpg_reader.proofs.ranges.in_range.Given as goal

-- all numbers so far are in range, so what is left to say is whether the others are
abbrev pub invariant-loop-number : goal.invariant-loop-number
invariant-loop-number l = in_range l.table l.index l.numbers ≡ in_range l.table l.index (drop l.number-index l.numbers)
