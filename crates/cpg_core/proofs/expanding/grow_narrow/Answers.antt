-- Proof of `grow_narrow`, which returns the trees under an order, and how good it is, as `grow` does. No item may be
-- too wide under the order by its views, so the one error is `OutOfMemory`.
use Rattle.cpg_expand.specs.Large.{HasLargeTree}
use Rattle.cpg_expand.proofs.LargeShown.{none_named}
use Rattle.cpg_core.proofs.expanding.grow_narrow.Goals as goal

-- no item is to be named, so the fault cannot come
pub unreachable-requires : goal.unreachable-requires
unreachable-requires c =
    rw c.in-Err-TooWide.field-0-is at
    (none_named (HasLargeTree c.args.admitted.now.graph c.args.admitted.now.order c.args.order)
    (λ _. ⊥) c.in-Err-TooWide.field-0 c.in-Err-TooWide.ensures.fault)
