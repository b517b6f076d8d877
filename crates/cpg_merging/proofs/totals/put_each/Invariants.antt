-- Loops of `put_each`, which marks the place of each number in the sieve.
use Rattle.std.proofs.Common.{ℕ, ◌≡◌, Contains, length, take}
use Rattle.cpg_merging.specs.Totals.{IsMarked, place_in}
use Rattle.cpg_merging.proofs.totals.put_each.Given as goal

-- the sieve keeps its length, and the place of each number so far is marked in it
abbrev pub invariant-loop-number : goal.invariant-loop-number
invariant-loop-number l = record {
  long : length l.sieve ≡ l.count;
  marked : (n : ℕ) → Contains (take l.number-index l.numbers) n → IsMarked l.sieve (place_in l.count n);
}
