-- Proof of `frozen_times`: for each item, by number, the time that it has to have; `None` if it isn't frozen, or no
-- column of it ever matches.
use Rattle.cpg_base.proofs.Lists.{map_below_push}
use Rattle.cpg_check_time.specs.Frozen.{frozen_time}
use Rattle.cpg_check_time.proofs.frozen.frozen_times.Goals as goal

-- with the next item's time, the list has the times of one item more
pub loop-item-preserved : goal.loop-item-preserved
loop-item-preserved c = map_below_push (frozen_time c.args.admitted.now.graph c.args.tables.now.nodes)
    c.loop-item.times.items c.push.new.self.items c.frozen_time.result c.loop-item.item
    c.loop-item.invariant c.frozen_time.ensures c.in_ok-push.ensures.items
