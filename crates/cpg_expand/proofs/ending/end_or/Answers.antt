-- Proof of `end_or`, which returns a tree with the end of a process where it is active, and with the time of `wait`
-- elsewhere.
use Rattle.cpg_tree.proofs.Readings.{later_pass, later_each, later_map}
use Rattle.cpg_tree.specs.Read.{later_by}
use Rattle.cpg_tree.specs.Variables.{is_variable}
use Rattle.cpg_expand.proofs.GuardTrees.{each_of}
use Rattle.cpg_expand.proofs.EndTrees.{ready_valued}
use Rattle.cpg_tree.proofs.GraphTrees.{same_tree}
use Rattle.cpg_expand.proofs.ending.end_or.Goals as goal

-- the tree has the faults of the chooser, and forks on the graph's variables alone
pub returns-clause-tree : goal.returns-clause-tree
returns-clause-tree c = same_tree c.args.problem.now c.args.active.now c.in_ok-ready.ready c.requires.active.faults
    c.in_ok-ready.ensures.is.faults c.in_ok-ready.ensures.each
    (c.in_ok-ready.ensures.pass (is_variable c.args.problem.now) c.requires.active.known c.requires.end.known
    c.requires.wait.known)

-- the chooser picks the ends, read as times, where the process is active, and what it waited for elsewhere
pub returns-clause-ready : goal.returns-clause-ready
returns-clause-ready c =
    let g = c.args.problem.now in
    let end = c.args.end.now in
    let each = each_of g end.faults end c.requires.end.faults c.requires.end in
    ready_valued g c.args.active.now end c.args.wait.now (later_by 0 end) c.in_ok-ready.ready c.requires.active
    c.requires.end c.requires.wait (later_map 0 end each) (later_each 0 end each)
    (later_pass 0 end (is_variable g) c.requires.end.known) c.in_ok-ready.ensures.is
