-- Proof of `empty_lists`: returns an empty list for each of `count` processes.
use Rattle.std.proofs.Common.{[]}
use Rattle.cpg_base.proofs.Lists.{map_below_push}
use Rattle.cpg_order.proofs.links.empty_lists.Goals as goal

-- one more empty list is added to those so far
pub loop-preserved : goal.loop-preserved
loop-preserved c = map_below_push (λ _. []) c.loop.lists.items c.push.new.self.items _ c.loop.counter c.loop.invariant
    c.empty.ensures c.in_ok-push.ensures.items
