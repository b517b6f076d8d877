-- Proof of `marks_over`, which returns at which variables some column may follow another one, judged by their totals,
-- by number.
use Rattle.std.proofs.Common.{ℕ, List, map, IsPermutation, sym, subst, rules}
use Rattle.std.proofs.lemmas.List.Sorted.{IsNonDecreasingBy-from_sort}
use Rattle.cpg_merging.specs.Totals.{total_of, DoNotFall}
use Rattle.cpg_merging.proofs.MergingTotals.{marked_sorted}
use Rattle.cpg_merging.proofs.marks.marks_over.Goals as goal

-- the totals are sorted, and the sieve marks each of them
pub marks_by-requires-clause-sums : goal.marks_by-requires-clause-sums
marks_by-requires-clause-sums c = record {
  up = subst DoNotFall (sym c.as_slice-3.ensures.value)
      (λ i j less inside. IsNonDecreasingBy-from_sort
      (λ (n : ℕ). n) _ c.sort_unstable.ensures.sorted i j 0 less inside);
  some = search rules;
  marked = search rules;
}

-- marks by the sorted totals are marks by the totals
pub returns : goal.returns
returns c = marked_sorted (map (λ b. b.now) c.args.columns.now) c.marks_by.result c.as_slice-3.result.now
    (subst (IsPermutation (map total_of (map (λ b. b.now) c.args.columns.now))) (sym c.as_slice-3.ensures.value)
    (subst (λ (ns : List ℕ). IsPermutation ns c.sort_unstable.new.self.items)
    (search rules) c.sort_unstable.ensures.permutation))
    c.marks_by.ensures
