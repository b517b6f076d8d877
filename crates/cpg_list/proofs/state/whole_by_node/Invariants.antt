-- Loops of `whole_by_node`: makes for each node `count` cubes that match every scenario.
use Rattle.std.proofs.Common.{◌≡◌, [], replicate}
use Rattle.cpg_list.proofs.state.whole_by_node.Given as goal

-- each node so far has `count` cubes without literals
abbrev pub invariant-loop : goal.invariant-loop
invariant-loop l = l.nodes.items ≡ replicate l.counter (replicate l.count [])
