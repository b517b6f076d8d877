-- Proof of `ready_first`, which returns, for `count` nodes, that each is ready from time 0 on.
use Rattle.std.proofs.Common.{subst}
use Rattle.cpg_tree.specs.Tree.{IsConstant}
use Rattle.cpg_tree.specs.Variables.{is_variable}
use Rattle.cpg_expand.proofs.ForestMade.{nodes_pushed}
use Rattle.cpg_expand.proofs.GuardTrees.{constant_tree}
use Rattle.cpg_expand.proofs.forest.ready_first.Goals as goal

-- one more node is ready at 0 in all scenarios
pub loop-preserved : goal.loop-preserved
loop-preserved c =
    nodes_pushed c.args.problem.now c.loop.nodes.items c.push.new.self.items c.in_ok-zero.zero c.loop.counter
    (c.loop.invariant.0, c.loop.invariant.1, c.loop.invariant.2)
    (constant_tree c.args.problem.now 0 c.faults.result c.in_ok-zero.zero c.faults.ensures.faults
    c.in_ok-zero.ensures.each c.in_ok-zero.ensures.is
    (c.in_ok-zero.ensures.pass (is_variable c.args.problem.now)))
    (subst (λ k. IsConstant 0 k c.in_ok-zero.zero) c.faults.ensures.faults c.in_ok-zero.ensures.is)
    c.in_ok-push.ensures.items
