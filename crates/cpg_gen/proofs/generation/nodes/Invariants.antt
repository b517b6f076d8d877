-- Loops of `nodes`, which returns the names of the four nodes: N0 to N3.
use Rattle.std.proofs.Common.{◌≡◌, map}
use Rattle.cpg_base.specs.Numbers.{numbers_below}
use Rattle.cpg_gen.specs.Generated.{node_name}
use Rattle.cpg_gen.proofs.generation.nodes.Given as goal

-- after each node, `nodes` has the names of the nodes so far
abbrev pub invariant-loop-node : goal.invariant-loop-node
invariant-loop-node l = l.nodes.items ≡ map node_name (numbers_below l.node)
