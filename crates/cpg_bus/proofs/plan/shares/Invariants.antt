-- Loops of `shares`: returns the share of each node that has a slot, by node.
use Rattle.std.proofs.Common.{◌≡◌, map}
use Rattle.cpg_base.specs.Numbers.{numbers_below}
use Rattle.cpg_bus.specs.Plan.{share_if}
use Rattle.cpg_bus.proofs.plan.shares.Given as goal

-- after each node, the list has the share of each node so far
abbrev pub invariant-loop-node : goal.invariant-loop-node
invariant-loop-node l = l.shares.items ≡ map (share_if l.problem) (numbers_below l.node)
