-- Loops of `slots`, which returns the slots of the four nodes, one each in the order of the nodes.
use Rattle.std.proofs.Common.{◌≡◌, map}
use Rattle.cpg_base.specs.Numbers.{numbers_below}
use Rattle.cpg_gen.specs.Generated.{slot_of}
use Rattle.cpg_gen.proofs.generation.slots.Given as goal

-- after each node, `slots` has the slots of the nodes so far
abbrev pub invariant-loop-node : goal.invariant-loop-node
invariant-loop-node l = l.slots.items ≡ map slot_of (numbers_below l.node)
