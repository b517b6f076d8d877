-- Loops of `add_frozen_of`: adds the frozen items of a process: its start, and then what it sends, in the order of its
-- queue.
use Rattle.std.proofs.Common.{◌≡◌, ◌++◌, ◌∷◌, filter, take}
use Rattle.cpg_base.specs.Graph.{is_frozen}
use Rattle.cpg_bus.specs.Plan.{queue_of}
use Rattle.cpg_all_runs.proofs.freezing.add_frozen_of.Given as goal

-- the items are the old ones, and then those that are frozen of the start and of the queue's items so far
abbrev pub invariant-loop-item : goal.invariant-loop-item
invariant-loop-item l = l.items.items ≡ l.fn.items.items
    ++ filter (is_frozen l.problem) (l.process ∷ take l.item-index (queue_of l.problem l.process))
