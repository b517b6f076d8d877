-- Proof of `grow_bounded`, which returns the trees under an order, and how good it is. Unlike `grow`, it refuses no
-- item for its views alone: if some item is too wide by them, the leaves of trees are counted on the way, and `TooWide`
-- has the least such item if a tree has more than 147,456.
use Rattle.cpg_expand.specs.Large.{HasLargeTree}
use Rattle.cpg_core.specs.GrownFor.{IsWidth}
use Rattle.cpg_expand.proofs.LargeShown.{handed_on}
use Rattle.cpg_core.proofs.WideRowsMade.{named_least, width_of}
use Rattle.cpg_core.proofs.expanding.grow_bounded.Goals as goal

-- `wide` names the least item of the order that is too wide, or nothing if there is none
pub grow_with-requires-clause-wide : goal.grow_with-requires-clause-wide
grow_with-requires-clause-wide c = width_of c.args.admitted.now.graph c.args.order c.in_ok-wide.wide
    c.in_ok-wide.ensures.some c.in_ok-wide.ensures.none

-- the fault names the least item that is too wide, as some tree along the order has too many leaves
pub returns-in_err-grown-clause-fault : goal.returns-in_err-grown-clause-fault
returns-in_err-grown-clause-fault c =
    handed_on _ c.from_residual-in_err-grown.result c.in_err-grown.field-0.0 c.from_residual-in_err-grown.ensures.1
    (named_least (HasLargeTree c.args.admitted.now.graph c.args.admitted.now.order c.args.order)
    c.args.admitted.now.graph c.args.order c.in_ok-wide.wide c.in_err-grown.field-0.0
    (width_of c.args.admitted.now.graph c.args.order c.in_ok-wide.wide c.in_ok-wide.ensures.some
    c.in_ok-wide.ensures.none) c.in_err-grown.ensures.fault)
