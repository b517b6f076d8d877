-- Proof of `live`, which returns a tree that is true where an edge is live, and false elsewhere. `active` says where
-- its source is active.
use Rattle.std.proofs.Common.{◌∙◌, sym}
use Rattle.cpg_tree.specs.Variables.{is_variable}
use Rattle.cpg_tree.proofs.GraphTrees.{same_tree}
use Rattle.cpg_expand.proofs.Goes.{live_simple, live_tested}
use Rattle.cpg_expand.proofs.sending.live.Goals as goal

-- the edge tests a condition, so it is live where its source is active and the condition has the value
pub returns-in_ok-tested-in-Some-clause-live : goal.returns-in_ok-tested-in-Some-clause-live
returns-in_ok-tested-in-Some-clause-live c = live_tested c.args.problem.now c.args.edge c.args.active.now
    c.in_ok-tested-in-Some.tested c.in-Some.question.0 c.in-Some.question.1
    (sym c.asked.ensures.asked ∙ c.in-Some.is) c.in_ok-tested-in-Some.ensures.tested

-- the tree has the faults of the one that it copies, and forks on the graph's variables alone
pub returns-in_ok-same-in-None-clause-tree : goal.returns-in_ok-same-in-None-clause-tree
returns-in_ok-same-in-None-clause-tree c = same_tree c.args.problem.now c.args.active.now c.in_ok-same-in-None.same
    c.requires.active.faults c.in_ok-same-in-None.ensures.is.faults
    c.in_ok-same-in-None.ensures.each
    (c.in_ok-same-in-None.ensures.pass (is_variable c.args.problem.now) c.requires.active.known)

-- the edge tests nothing, so it is live where its source is active
pub returns-in_ok-same-in-None-clause-live : goal.returns-in_ok-same-in-None-clause-live
returns-in_ok-same-in-None-clause-live c = live_simple c.args.problem.now c.args.edge c.args.active.now
    c.in_ok-same-in-None.same c.requires.edge c.asked.ensures.within
    (sym c.asked.ensures.asked ∙ c.in-None.is) c.requires.active c.in_ok-same-in-None.ensures.is
