-- Proof of `never`, which returns a tree that has no time in any scenario.
use Rattle.std.proofs.Common.{None, subst}
use Rattle.cpg_tree.specs.Tree.{IsConstant}
use Rattle.cpg_tree.specs.Variables.{is_variable}
use Rattle.cpg_expand.proofs.GuardTrees.{constant_tree}
use Rattle.cpg_expand.proofs.forest.never.Goals as goal

-- the tree is one of the graph, with no time everywhere
pub returns : goal.returns
returns c =
    let g = c.args.problem.now in
    let never = c.in_ok-never.never in
    let none = subst (λ t. IsConstant t c.faults.result never) c.of.ensures c.in_ok-never.ensures.is in
    record {
      tree = constant_tree g None c.faults.result never c.faults.ensures.faults c.in_ok-never.ensures.each none
          (c.in_ok-never.ensures.pass (is_variable g));
      none = subst (λ k. IsConstant None k never) c.faults.ensures.faults none;
    }
