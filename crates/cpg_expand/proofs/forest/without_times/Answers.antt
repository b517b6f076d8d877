-- Proof of `without_times`, which returns `count` trees that have no time in any scenario.
use Rattle.std.proofs.Common.{None}
use Rattle.cpg_expand.proofs.ForestMade.{trees_pushed, constants_pushed}
use Rattle.cpg_expand.proofs.forest.without_times.Goals as goal

-- one more tree has no time in any scenario
pub loop-preserved : goal.loop-preserved
loop-preserved c =
    let pushed = trees_pushed c.args.problem.now c.loop.trees.items c.push.new.self.items c.in_ok-never.field-0
    c.loop.counter (c.loop.invariant.0, c.loop.invariant.1)
    c.in_ok-never.ensures.tree c.in_ok-push.ensures.items in (
      pushed.0,
      pushed.1,
      constants_pushed None c.args.problem.now.faults c.loop.trees.items c.push.new.self.items c.in_ok-never.field-0
          c.loop.invariant.2 c.in_ok-never.ensures.none c.in_ok-push.ensures.items,
    )
