-- Proof of `are_at_least`: whether each leaf of a tree has a time that is at least `least`.
use Rattle.std.proofs.Common.{All, subst}
use Rattle.std.proofs.lemmas.Bool.{OnTrue_at}
use Rattle.std.proofs.lemmas.List.{take_all}
use Rattle.std.proofs.lemmas.List.Elements.{All-more}
use Rattle.cpg_tree.specs.Later.{IsItemFrom}
use Rattle.cpg_tree.proofs.AtLeast.{at_least_listed}
use Rattle.cpg_tree.proofs.tree.are_at_least.Goals as goal

-- one more item is no value, or a time that isn't below the least
pub loop-item-preserved : goal.loop-item-preserved
loop-item-preserved c = All-more (IsItemFrom c.args.least) c.args.items.now c.loop-item.item-index c.item-item.result
    c.loop-item-test.true c.loop-item.invariant
    (subst (IsItemFrom c.args.least) c.item-item.is (OnTrue_at c.if-not-is_item_from.false c.is_item_from.ensures))

-- the loop has gone over all items, so each value of the tree is a time that isn't below the least
pub returns : goal.returns
returns c n are = at_least_listed c.args.least n (subst (All (IsItemFrom c.args.least)) are
    (subst (All (IsItemFrom c.args.least))
    (take_all c.loop-item.item-index c.args.items.now c.loop-item-test.false) c.loop-item.invariant))
