-- Loops of `items_of`, which returns for each of the first `count` nodes what it starts, sends and hears.
use Rattle.std.proofs.Common.{◌≡◌, map}
use Rattle.cpg_base.specs.Numbers.{numbers_below}
use Rattle.cpg_table.specs.Items.{lists_of}
use Rattle.cpg_packing.proofs.packing.items_of.Given as goal

-- the list has the items of the nodes so far
abbrev pub invariant-loop-node : goal.invariant-loop-node
invariant-loop-node l = l.nodes.items ≡ map (lists_of l.head) (numbers_below l.node)
