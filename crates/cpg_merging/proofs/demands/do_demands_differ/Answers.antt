-- Proof of `do_demands_differ`, which says whether any two of these demands have one time and differ.
use Rattle.std.proofs.Common.{ℕ, IsPermutation, sym, subst}
use Rattle.std.proofs.lemmas.List.Sorted.{IsNonDecreasingBy-from_sort}
use Rattle.cpg_merging.specs.Totals.{DoNotFall}
use Rattle.cpg_merging.proofs.MergingDemands.{agree_sorted, off_weaker}
use Rattle.cpg_merging.proofs.demands.do_demands_differ.Goals as goal

-- the demands are sorted, so they don't fall
pub do_any_differ-requires : goal.do_any_differ-requires
do_any_differ-requires c = subst DoNotFall (sym c.as_slice.ensures.value)
    (λ i j less inside. IsNonDecreasingBy-from_sort (λ (n : ℕ). n) _ c.sort_unstable.ensures.sorted i j 0 less inside)

-- if no two demands of one time differ in the sorted list, none do in the given one, which has the same
pub returns : goal.returns
returns c = off_weaker c.do_any_differ.result (agree_sorted c.args.demands.items c.as_slice.result.now
    (subst (IsPermutation c.args.demands.items) (sym c.as_slice.ensures.value) c.sort_unstable.ensures.permutation))
    c.do_any_differ.ensures
