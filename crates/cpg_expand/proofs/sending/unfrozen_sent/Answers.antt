-- Proof of `unfrozen_sent`, which returns a tree with the times of an item: the first free slot at `end` or later where
-- `goes` is true, and no time elsewhere. `share` says which slots its node has, `end` when its producer ends, and
-- `free` from when on slots are free.
use Rattle.cpg_tree.specs.Variables.{is_variable}
use Rattle.cpg_expand.proofs.EndTrees.{sent_valued, sent_always}
use Rattle.cpg_tree.proofs.GraphTrees.{same_tree}
use Rattle.cpg_expand.proofs.sending.unfrozen_sent.Goals as goal

-- the tree has the faults of the chooser, and forks on the graph's variables alone
pub returns-clause-tree : goal.returns-clause-tree
returns-clause-tree c = same_tree c.args.problem.now c.args.goes.now c.in_ok-sent.sent c.requires.goes.faults
    c.in_ok-sent.ensures.is.faults c.in_ok-sent.ensures.each
    (c.in_ok-sent.ensures.pass (is_variable c.args.problem.now) c.requires.goes.known
    (c.in_ok-slots.ensures.pass (is_variable c.args.problem.now) c.requires.end.known c.requires.free.known)
    c.in_ok-never.ensures.tree.known)

-- the slots are picked where the item goes, and elsewhere there is no time
pub returns-clause-sent : goal.returns-clause-sent
returns-clause-sent c = sent_valued c.args.problem.now c.args.share c.args.goes.now c.args.end.now c.args.free.now
    c.in_ok-slots.slots c.in_ok-never.never c.in_ok-sent.sent c.requires.goes
    c.requires.end c.requires.free
    c.in_ok-slots.ensures.is c.in_ok-slots.ensures.each
    (c.in_ok-slots.ensures.pass (is_variable c.args.problem.now) c.requires.end.known c.requires.free.known)
    c.in_ok-never.ensures.none c.in_ok-never.ensures.tree c.in_ok-sent.ensures.is

-- the tree has the faults of the graph, and forks on the graph's variables alone
pub returns-then-is_true-clause-tree : goal.returns-then-is_true-clause-tree
returns-then-is_true-clause-tree c = same_tree c.args.problem.now c.args.end.now c.in_ok-slots.slots
    c.requires.end.faults c.in_ok-slots.ensures.is.faults c.in_ok-slots.ensures.each
    (c.in_ok-slots.ensures.pass (is_variable c.args.problem.now) c.requires.end.known c.requires.free.known)

-- the item goes in each scenario, so its times are those of the slots
pub returns-then-is_true-clause-sent : goal.returns-then-is_true-clause-sent
returns-then-is_true-clause-sent c = sent_always c.args.problem.now c.args.share c.args.goes.now c.args.end.now
    c.args.free.now c.in_ok-slots.slots c.if-is_true.ensures c.requires.end c.requires.free
    c.in_ok-slots.ensures.is
