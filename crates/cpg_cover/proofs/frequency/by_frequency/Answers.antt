-- Proof of `by_frequency`, which returns the literals, those on the variables first that most cubes of `by` have a
-- literal on.
use Rattle.std.proofs.Common.{rules, ◌≡◌, map}
use Rattle.std.proofs.lemmas.List.Sorted.{IsPermutation-map}
use Rattle.cpg_cover.specs.declared.frequency.LiteralRank.{LiteralRank}
use Rattle.cpg_cover.proofs.frequency.by_frequency.Goals as goal

-- the ranks are sorted, and their literals are those of the list, in another order
pub returns : goal.returns
returns c =
    let same : map (λ (r : LiteralRank). r.literal) c.in_ok-ranks.ranks.items ≡ c.args.literals.now = search rules in
    rw (c.in_ok-ranked.ensures, c.as_slice.ensures.value, ← same)
    (IsPermutation-map (λ (r : LiteralRank). r.literal) _ _ c.sort_unstable.ensures.permutation)
