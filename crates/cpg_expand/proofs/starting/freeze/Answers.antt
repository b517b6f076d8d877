-- Proof of `freeze`, which sets `latest` as the frozen time of an item, and returns the tree that has this time where
-- `goes` is true, and no time elsewhere. With `None`, which is right only if the item never goes, no time is set.
use Rattle.cpg_tree.specs.Variables.{is_variable}
use Rattle.cpg_tree.proofs.GraphTrees.{same_tree}
use Rattle.cpg_expand.proofs.starting.freeze.Goals as goal

-- the tree has the faults of the graph, and forks on the graph's variables alone
pub returns-clause-tree : goal.returns-clause-tree
returns-clause-tree c = same_tree c.args.problem.now c.args.goes.now c.in_ok-one.one c.requires.goes.faults
    c.in_ok-one.ensures.is.faults c.in_ok-one.ensures.each
    (c.in_ok-one.ensures.pass (is_variable c.args.problem.now) c.requires.goes.known)
