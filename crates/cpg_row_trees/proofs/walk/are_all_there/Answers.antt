-- Proof of `are_all_there`: whether no item is a leaf without a place.
use Rattle.std.proofs.Common.{All, subst}
use Rattle.std.proofs.lemmas.List.{take_all}
use Rattle.std.proofs.lemmas.List.Elements.{All-more}
use Rattle.cpg_tree.proofs.Forks.{from_true}
use Rattle.cpg_row_trees.specs.Places.{IsThere}
use Rattle.cpg_row_trees.proofs.walk.are_all_there.Goals as goal

-- the next item isn't a leaf without a place either
pub loop-item-preserved : goal.loop-item-preserved
loop-item-preserved c =
    All-more IsThere c.args.items.now c.loop-item.item-index _ c.loop-item-test.true c.loop-item.invariant
    (from_true c.is_there.result c.if-not-is_there.false c.is_there.ensures)

-- at the end all items have been seen
pub returns : goal.returns
returns c =
    subst (All IsThere) (take_all c.loop-item.item-index c.args.items.now c.loop-item-test.false) c.loop-item.invariant
