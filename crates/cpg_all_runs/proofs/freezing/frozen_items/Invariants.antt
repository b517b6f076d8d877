-- Loops of `frozen_items`: the frozen items of all processes, along an order.
use Rattle.std.proofs.Common.{◌≡◌, take}
use Rattle.cpg_run.specs.FrozenItems.{frozen_along}
use Rattle.cpg_all_runs.proofs.freezing.frozen_items.Given as goal

-- the items are the frozen items of the processes so far, along the order
abbrev pub invariant-loop-process : goal.invariant-loop-process
invariant-loop-process l = l.items.items ≡ frozen_along l.problem (take l.process-index l.order)
