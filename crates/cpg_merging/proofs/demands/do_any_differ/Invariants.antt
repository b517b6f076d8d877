-- Loops of `do_any_differ`, which says whether any two of these demands, which are sorted, have one time and differ.
use Rattle.cpg_merging.proofs.MergingDemands.{NeighboursAgree}
use Rattle.cpg_merging.proofs.demands.do_any_differ.Given as goal

-- any two neighbours before the place that have one time are equal
abbrev pub invariant-loop-place : goal.invariant-loop-place
invariant-loop-place l = NeighboursAgree l.sorted l.place
