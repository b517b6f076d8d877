-- Loops of `all_in_range`, which refuses elements of which one has a number out of range.
use Rattle.std.proofs.Common.{◌≡◌, drop}
use Rattle.cpg_reader.specs.Ranges.{all_in_range}
use Rattle.cpg_reader.proofs.ranges.all_in_range.Given as goal

-- all elements so far are in range, so what is left to say is whether the others are
abbrev pub invariant-loop-index : goal.invariant-loop-index
invariant-loop-index g l = all_in_range l.table g.T.Numbered.numbers 0 l.fn.elements
    ≡ all_in_range l.table g.T.Numbered.numbers l.index (drop l.index l.fn.elements)
