-- Proof of `tested`, which returns a tree that is true where `active` is and the condition has the value `wanted`, and
-- false elsewhere.
use Rattle.std.proofs.Common.{◌+◌, false, subst}
use Rattle.cpg_base.specs.Scenario.{number_of_value}
use Rattle.cpg_tree.specs.Tree.{IsConstant, IsNumber}
use Rattle.cpg_tree.specs.Variables.{is_variable}
use Rattle.cpg_expand.proofs.GuardTrees.{value_passes}
use Rattle.cpg_expand.proofs.EndTrees.{tested_valued}
use Rattle.cpg_tree.proofs.GraphTrees.{same_tree}
use Rattle.cpg_expand.proofs.sending.tested.Goals as goal

-- the tree that is picked has the faults and variables of the graph, as its parts have
pub returns-clause-tree : goal.returns-clause-tree
returns-clause-tree c = same_tree c.args.problem.now c.args.active.now c.in_ok-both.both c.requires.active.faults
    c.in_ok-both.ensures.is.faults c.in_ok-both.ensures.each
    (c.in_ok-both.ensures.pass (is_variable c.args.problem.now) c.requires.active.known
    (c.in_ok-alike.ensures.pass (is_variable c.args.problem.now)
    (c.in_ok-value.ensures.pass (is_variable c.args.problem.now)
    (value_passes c.args.problem.now c.args.condition c.requires.condition)))
    (c.in_ok-never.ensures.pass (is_variable c.args.problem.now)))

-- the tree is true where the given one is true and the condition has the value that is wanted
pub returns-clause-tested : goal.returns-clause-tested
returns-clause-tested c = tested_valued c.args.problem.now c.args.condition c.args.wanted c.args.active.now
    c.in_ok-value.value c.in_ok-alike.alike c.in_ok-never.never c.in_ok-both.both
    c.requires.active
    (subst (λ k. IsNumber (128 + c.args.condition) k number_of_value c.in_ok-value.value) c.faults-2.ensures.faults
    c.in_ok-value.ensures.is) c.in_ok-value.ensures.each
    c.in_ok-alike.ensures.is c.in_ok-alike.ensures.each
    (c.in_ok-alike.ensures.pass (is_variable c.args.problem.now)
    (c.in_ok-value.ensures.pass (is_variable c.args.problem.now)
    (value_passes c.args.problem.now c.args.condition c.requires.condition)))
    (subst (λ k. IsConstant false k c.in_ok-never.never) c.faults.ensures.faults c.in_ok-never.ensures.is)
    c.in_ok-never.ensures.each
    (c.in_ok-never.ensures.pass (is_variable c.args.problem.now)) c.in_ok-both.ensures.is
