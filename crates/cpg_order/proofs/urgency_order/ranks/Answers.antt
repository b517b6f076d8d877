-- Proof of `ranks`: returns the rank of each process, by number.
use Rattle.std.proofs.Common.{refl}
use Rattle.cpg_base.proofs.Lists.{map_below_push}
use Rattle.cpg_order.specs.Ranks.{rank_of}
use Rattle.cpg_order.proofs.urgency_order.ranks.Goals as goal

-- one more process has its rank
pub loop-process-preserved : goal.loop-process-preserved
loop-process-preserved c = map_below_push (rank_of c.args.tails.now) c.loop-process.ranks.items c.push.new.self.items _
    c.loop-process.process c.loop-process.invariant refl c.in_ok-push.ensures.items
