-- Proof of `step`, which adds to the forest the trees of a process and of what it sends, and to `frozen` the frozen
-- times of those of them that are frozen. `TooWide` names the forest's item if a tree on the way to the start and the
-- end has too many leaves.
use Rattle.std.proofs.Common.{◌∙◌, subst}
use Rattle.cpg_base.specs.Graph.{Graph}
use Rattle.cpg_bus.specs.Plan.{queue_of}
use Rattle.cpg_expand.specs.Sent.{AreItemsAdded}
use Rattle.cpg_expand.proofs.LargeShown.{added_wide, begun_wide}
use Rattle.cpg_expand.proofs.Stepped.{stepped}
use Rattle.cpg_core.proofs.along.step.Goals as goal

-- the process has begun, and all that it sends is added, so the trees are grown up to the next place
pub returns-clause-grown : goal.returns-clause-grown
returns-clause-grown c =
    let a = c.args.admitted.now in
    stepped a.graph a.order a.guards c.problem-problem.ensures.admitted c.args.order.now c.args.process
    c.requires.process c.args.forest.now c.begin.new.forest c.send.new.forest c.args.frozen.now
    c.begin.new.frozen c.send.new.frozen
    c.in_ok-active.active c.in_ok-active.ensures.begun c.in_ok-active.ensures.trees
    (subst (λ (g : Graph). AreItemsAdded g c.args.order.now c.in_ok-active.active
    (queue_of g c.args.process) c.begin.new.forest c.send.new.forest c.begin.new.frozen c.send.new.frozen)
    c.problem-problem.ensures.problem c.in_ok-send.ensures.added)

-- the item to name is the old forest's, since neither the beginning nor the sends change it
pub returns-clause-wide : goal.returns-clause-wide
returns-clause-wide c =
    added_wide c.problem-problem.result.now c.args.order.now c.in_ok-active.active
    (queue_of c.problem-problem.result.now c.args.process) c.begin.new.forest c.send.new.forest c.begin.new.frozen
    c.send.new.frozen c.in_ok-send.ensures.added
    ∙ begun_wide c.args.admitted.now.graph c.args.order.now c.args.admitted.now.guards c.args.process c.args.forest.now
    c.begin.new.forest c.args.frozen.now c.begin.new.frozen c.in_ok-active.active
    c.in_ok-active.ensures.begun
