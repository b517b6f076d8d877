-- Proof of `ready_at`, which returns from when on the node of a process goes on after it: its end where `active` is
-- true, and elsewhere when its wait would be over. `end` has the ends of the process, and `wait` says what it waits for
-- on its node.
use Rattle.std.proofs.Common.{sym, subst}
use Rattle.cpg_expand.specs.Ending.{IsReadyTree}
use Rattle.cpg_expand.specs.Forest.{IsWait, ends_of, later_tree, ready_by}
use Rattle.cpg_expand.specs.declared.forest.Ready.{Ready}
use Rattle.cpg_expand.proofs.EndTrees.{ready_after}
use Rattle.cpg_expand.proofs.ending.ready_at.Goals as goal

-- the node waits for a process, which is one of the graph
pub end_there-requires-clause-process : goal.end_there-requires-clause-process
end_there-requires-clause-process c = subst (IsWait c.args.problem.now) c.in-After.is c.requires.wait

-- the wait is until a process has ended, so its ends are read as times before the tree is picked
pub returns-in_ok-ready-in-After-clause-ready : goal.returns-in_ok-ready-in-After-clause-ready
returns-in_ok-ready-in-After-clause-ready c =
    let g = c.args.problem.now in
    let f = c.args.forest.now in
    subst (λ (r : Ready). IsReadyTree g.faults c.args.active.now c.args.end.now
    (ready_by g f r) c.in_ok-ready-in-After.ready) (sym c.in-After.is)
    (ready_after g.faults c.args.active.now c.args.end.now
    (later_tree (ends_of g f c.in-After.process)) c.in_ok-there-in-After.there c.in_ok-ready-in-After.ready
    c.in_ok-there-in-After.ensures.later c.in_ok-ready-in-After.ensures.ready)

-- the node waits by a tree, which is one of the graph
pub end_or-requires-in-At-clause-wait : goal.end_or-requires-in-At-clause-wait
end_or-requires-in-At-clause-wait c = subst (IsWait c.args.problem.now) c.in-At.is c.requires.wait

-- the node was ready by a tree, which is taken as it is
pub returns-in_ok-ready-in-At-clause-ready : goal.returns-in_ok-ready-in-At-clause-ready
returns-in_ok-ready-in-At-clause-ready c =
    let g = c.args.problem.now in
    let f = c.args.forest.now in
    subst (λ (r : Ready). IsReadyTree g.faults c.args.active.now c.args.end.now
    (ready_by g f r) c.in_ok-ready-in-At.ready) (sym c.in-At.is) c.in_ok-ready-in-At.ensures.ready
