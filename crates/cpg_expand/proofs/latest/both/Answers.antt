-- Proof of `both`, which returns a tree that is true where the trees `one` and `other` both are, and false elsewhere.
use Rattle.std.proofs.Common.{false, subst}
use Rattle.cpg_tree.specs.Tree.{IsConstant}
use Rattle.cpg_tree.specs.Variables.{is_variable}
use Rattle.cpg_expand.proofs.EarlierFound.{both_true}
use Rattle.cpg_expand.proofs.GuardTrees.{constant_tree}
use Rattle.cpg_tree.proofs.GraphTrees.{same_tree}
use Rattle.cpg_expand.proofs.latest.both.Goals as goal

-- the tree that is picked has the faults and variables of the graph, as its parts have
pub returns-clause-tree : goal.returns-clause-tree
returns-clause-tree c =
    let g = c.args.problem.now in
    same_tree g c.args.one.now c.in_ok-both.both c.requires.one.faults c.in_ok-both.ensures.is.faults
    c.in_ok-both.ensures.each
    (c.in_ok-both.ensures.pass (is_variable g) c.requires.one.known c.requires.other.known
    (c.in_ok-never.ensures.pass (is_variable g)))

-- `one` picks `other` or nothing, so the result is true where both are
pub returns-clause-both : goal.returns-clause-both
returns-clause-both c =
    let g = c.args.problem.now in
    both_true g c.args.one.now c.args.other.now c.in_ok-never.never c.in_ok-both.both c.requires.one
    (constant_tree g false c.faults.result c.in_ok-never.never c.faults.ensures.faults c.in_ok-never.ensures.each
    c.in_ok-never.ensures.is (c.in_ok-never.ensures.pass (is_variable g)))
    (subst (λ n. IsConstant false n c.in_ok-never.never) c.faults.ensures.faults c.in_ok-never.ensures.is)
    c.in_ok-both.ensures.is
