-- Loops of `join_neighbours`, which returns the columns with neighbours made one where the second follows the first.
use Rattle.std.proofs.Common.{◌≡◌, ◌++◌}
use Rattle.std.specs.Vec.Iter.{into_iter_items}
use Rattle.cpg_merging.specs.Merging.{walked, walked_over}
use Rattle.cpg_merging.proofs.joins.join_neighbours.Given as goal

-- walking over all columns gives the columns joined so far, and then the walk from `current` over those that are left
abbrev pub invariant-loop-next : goal.invariant-loop-next
invariant-loop-next l = walked_over l.faults l.variable l.fn.columns.items ≡ l.joined.items
    ++ walked l.faults l.variable l.current (into_iter_items l.next-iterator)
