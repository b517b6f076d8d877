-- Proof of `active_item`, which returns a tree that is true in the scenarios in which an item is active, and false in
-- all others. The item is the start of a process, or one that is sent.
use Rattle.std.proofs.Common.{◌≡◌, ◌<◌, ◌∙◌, ap, arith, length, subst}
use Rattle.cpg_base.specs.Graph.{Graph, process_count, producer}
use Rattle.cpg_rules.specs.Guards.{tree_of}
use Rattle.cpg_expand.specs.Guarded.{IsActiveTree}
use Rattle.cpg_expand.specs.Sending.{IsGoesTree}
use Rattle.cpg_expand.proofs.ActiveItems.{start_activity, sent_activity}
use Rattle.cpg_expand.proofs.activity.active_item.Goals as goal

-- the item is a start, so it is active where its process is, as the guard's tree says
pub returns-then-item-processes-clause-active : goal.returns-then-item-processes-clause-active
returns-then-item-processes-clause-active c =
    let same = c.problem-problem.ensures.problem in
    let p = c.producer-process.result in
    let tree : c.guard_of-guard.result.now ≡ tree_of c.args.admitted.now.guards p =
    c.guard_of-guard.ensures.tree ∙ ap (λ guards. tree_of guards p) c.guards.ensures.guards in
    let chosen = subst (λ (g : Graph). IsActiveTree g.faults c.guard_of-guard.result.now c.in_ok-producing.producing)
    same c.in_ok-producing.ensures.active in
    let within = subst (λ (g : Graph). p < process_count g) same c.producer-process.ensures.within in
    start_activity c.args.admitted.now.graph c.args.admitted.now.order c.args.admitted.now.guards
    c.problem-problem.ensures.admitted c.guard_of-guard.result.now p within tree
    c.in_ok-producing.producing chosen
    c.args.item
    (omega (arith, c.if-item-processes.true, ap length c.processes.ensures.processes, ap process_count same))
    (c.producer-process.ensures.producer ∙ ap (λ g. producer g c.args.item) same)

-- the item is sent, so it is active where the tree of what its producer sends is true
pub returns-clause-active : goal.returns-clause-active
returns-clause-active c =
    let same = c.problem-problem.ensures.problem in
    let p = c.producer-process.result in
    let tree : c.guard_of-guard.result.now ≡ tree_of c.args.admitted.now.guards p =
    c.guard_of-guard.ensures.tree ∙ ap (λ guards. tree_of guards p) c.guards.ensures.guards in
    let chosen = subst (λ (g : Graph). IsActiveTree g.faults c.guard_of-guard.result.now c.in_ok-producing.producing)
    same c.in_ok-producing.ensures.active in
    let within = subst (λ (g : Graph). p < process_count g) same c.producer-process.ensures.within in
    let goes = subst (λ (g : Graph). IsGoesTree g c.args.item c.in_ok-producing.producing c.in_ok-goes.goes) same
    c.in_ok-goes.ensures.goes in
    sent_activity c.args.admitted.now.graph c.args.admitted.now.order c.args.admitted.now.guards
    c.problem-problem.ensures.admitted c.guard_of-guard.result.now p within tree
    c.in_ok-producing.producing chosen
    c.args.item (c.producer-process.ensures.producer ∙ ap (λ g. producer g c.args.item) same) c.in_ok-goes.goes goes
