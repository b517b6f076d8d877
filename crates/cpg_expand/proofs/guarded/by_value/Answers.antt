-- Proof of `by_value`, which returns the tree that has the values of `yes` where the condition is true and those of
-- `no` where it is false.
use Rattle.std.proofs.Common.{◌+◌, ◌∙◌, subst}
use Rattle.cpg_base.specs.Scenario.{number_of_value}
use Rattle.cpg_tree.specs.Tree.{IsNumber}
use Rattle.cpg_tree.specs.Variables.{is_variable}
use Rattle.cpg_expand.proofs.GuardTrees.{value_picks, value_passes}
use Rattle.cpg_tree.proofs.GraphTrees.{same_tree}
use Rattle.cpg_expand.proofs.guarded.by_value.Goals as goal

-- the value and both sides have variables of the graph, so the tree that is picked has, too
pub returns-clause-tree : goal.returns-clause-tree
returns-clause-tree g c = same_tree c.args.problem.now c.in_ok-value.value c.in_ok-picked.picked
    (c.in_ok-value.ensures.is.faults ∙ c.faults.ensures.faults) c.in_ok-picked.ensures.is.faults
    c.in_ok-picked.ensures.each
    (c.in_ok-picked.ensures.pass (is_variable c.args.problem.now) (c.in_ok-value.ensures.pass
    (is_variable c.args.problem.now) (value_passes c.args.problem.now c.args.condition c.requires.condition))
    c.requires.yes.known c.requires.no.known)

-- the tree of the value picks the side for true where the condition is true
pub returns-clause-picks : goal.returns-clause-picks
returns-clause-picks g c = value_picks c.args.problem.now c.args.condition c.in_ok-value.value c.args.yes.now
    c.args.no.now c.in_ok-picked.picked
    (subst (λ k. IsNumber (128 + c.args.condition) k number_of_value c.in_ok-value.value) c.faults.ensures.faults
    c.in_ok-value.ensures.is) c.in_ok-value.ensures.each c.requires.yes c.requires.no
    c.in_ok-picked.ensures.is
