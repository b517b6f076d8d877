-- Loops of `has_partner`, which says whether a column with this total may follow another one at a literal: with a
-- literal instead that ends right before, it would have a total that is among these.
use Rattle.std.proofs.Common.{ℕ, ◌<◌, ◌+◌, ◌%◌, ◌^◌, Contains}
use Rattle.cpg_merging.specs.Totals.{hash_of, ended}
use Rattle.cpg_merging.proofs.totals.has_partner.Given as goal

-- for each low so far, the total with a literal that begins there and ends right before the given one isn't among the
-- totals
abbrev pub invariant-loop-low : goal.invariant-loop-low
invariant-loop-low l =
    (low : ℕ) → low < l.low → Contains l.sums.sorted.now ((l.rest + hash_of (ended l.literal low)) % 2 ^ 64) → ⊥
