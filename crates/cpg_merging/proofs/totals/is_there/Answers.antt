-- Proof of `is_there`, which says whether a number is among the totals.
use Rattle.std.proofs.Common.{Bool, Contains, subst, sym}
use Rattle.std.specs.Bool.{OnFalse}
use Rattle.cpg_merging.proofs.MergingTotals.{not_there}
use Rattle.cpg_merging.proofs.totals.is_there.Goals as goal

-- the totals are sorted, so a number that the binary search doesn't find isn't among them
pub returns : goal.returns
returns c =
    subst (λ (b : Bool). OnFalse b (Contains c.args.sums.sorted.now c.args.number → ⊥)) (sym c.is_ok.ensures.value)
    (not_there c.args.sums.sorted.now c.args.number c.binary_search.result
    c.binary_search.ensures.position c.requires.up)
