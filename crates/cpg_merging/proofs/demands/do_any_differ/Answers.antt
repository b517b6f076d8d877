-- Proof of `do_any_differ`, which says whether any two of these demands, which are sorted, have one time and differ.
use Rattle.std.proofs.Common.{arith}
use Rattle.cpg_merging.proofs.MergingDemands.{all_agree}
use Rattle.cpg_merging.proofs.demands.do_any_differ.Goals as goal

-- no two neighbours of one time differ, and the numbers don't fall, so any two of one time are equal
pub returns : goal.returns
returns c = all_agree c.args.sorted.now c.requires
    (λ i within same. c.loop-place.invariant i (omega (arith, within, c.loop-place-test.false)) same)
