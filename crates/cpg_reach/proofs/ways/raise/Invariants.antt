-- Loops of `raise`, which turns the ways to add up to at most `faults` into those to add up to at most one more.
use Rattle.cpg_reach.proofs.Raising.{Raised}
use Rattle.cpg_reach.proofs.ways.raise.Given as goal

-- the entries below `counts` are the ways for one fault more, and the others those for the faults so far
abbrev pub invariant-loop-counts : goal.invariant-loop-counts
invariant-loop-counts l = Raised l.faults l.table l.counts
