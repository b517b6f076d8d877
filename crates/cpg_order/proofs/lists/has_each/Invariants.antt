-- Loops of `has_each`: returns whether a list has each number below its length exactly once.
use Rattle.cpg_order.proofs.ListChecks.{AreSeen}
use Rattle.cpg_order.proofs.lists.has_each.Given as goal

-- the numbers so far differ and are below the length of the list, and `seen` marks them
abbrev pub invariant-loop-number : goal.invariant-loop-number
invariant-loop-number l = AreSeen l.list l.seen.items l.number-index
