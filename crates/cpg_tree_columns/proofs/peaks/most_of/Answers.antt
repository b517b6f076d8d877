-- Proof of `most_of`, which returns the greatest number of the leaves; `None` if no leaf has one.
use Rattle.std.proofs.Common.{ℕ, ◌∙◌, Option, arith, sym, ap}
use Rattle.std.proofs.lemmas.List.{at_drop_all}
use Rattle.cpg_tree_columns.specs.Greatest.{greater}
use Rattle.cpg_tree_columns.proofs.GreatestTimes.{greater_none, most_in, most_in_flat}
use Rattle.cpg_tree_columns.proofs.peaks.most_of.Goals as goal

-- what was found is the greatest time of the items, and so the greatest number of the tree
pub returns : goal.returns
returns c n are =
    let found : Option ℕ = c.loop-item.most in
    sym (greater_none found)
    ∙ sym (at_drop_all (λ items. greater found (most_in items)) c.args.items.now c.loop-item.item-index
    (omega (arith, c.loop-item-test.false)))
    ∙ c.loop-item.invariant ∙ ap most_in are ∙ most_in_flat n
