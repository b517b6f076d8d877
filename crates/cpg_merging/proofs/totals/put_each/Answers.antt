-- Proof of `put_each`, which marks the place of each number in the sieve.
use Rattle.std.proofs.Common.{ℕ, length, arith, rules, subst, sym}
use Rattle.cpg_merging.specs.Totals.{IsMarked, place_in}
use Rattle.cpg_merging.proofs.MergingTotals.{all_of, sieve_more}
use Rattle.cpg_merging.proofs.totals.put_each.Goals as goal

-- the place of this number is marked, and the places marked before stay so
pub loop-number-preserved : goal.loop-number-preserved
loop-number-preserved c = record {
  long = search rules;
  marked = sieve_more c.loop-number.sieve
      (length c.args.sieve.now) c.place_in-place.result c.args.numbers.now c.loop-number.number-index _
      (omega arith) c.loop-number.invariant.long c.place_in-place.ensures.place c.place_in-place.ensures.within
      c.loop-number.invariant.marked;
}

-- the loop has gone over all numbers, so the place of each is marked
pub returns-clause-sieve : goal.returns-clause-sieve
returns-clause-sieve c = all_of (λ (n : ℕ). IsMarked c.loop-number.sieve (place_in (length c.loop-number.sieve) n))
    c.args.numbers.now c.loop-number.number-index (omega arith)
    (λ n there. subst (λ (count : ℕ). IsMarked c.loop-number.sieve (place_in count n))
    (sym c.loop-number.invariant.long) (c.loop-number.invariant.marked n there))
