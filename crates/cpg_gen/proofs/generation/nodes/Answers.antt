-- Proof of `nodes`, which returns the names of the four nodes: N0 to N3.
use Rattle.std.proofs.Common.{rules}
use Rattle.cpg_base.proofs.Lists.{map_below_push}
use Rattle.cpg_gen.specs.Generated.{node_name}
use Rattle.cpg_gen.proofs.Names.{node_name_is}
use Rattle.cpg_gen.proofs.generation.nodes.Goals as goal

-- `N` and a number below 4 make a name
pub numbered-requires : goal.numbered-requires
numbered-requires c = node_name_is c.loop-node.node (search rules)

-- with one name more, the names are those of one node more
pub loop-node-preserved : goal.loop-node-preserved
loop-node-preserved c = map_below_push node_name c.loop-node.nodes.items c.push.new.self.items c.in_ok-numbered.field-0
    c.loop-node.node c.loop-node.invariant c.in_ok-numbered.ensures
    c.in_ok-push.ensures.items
