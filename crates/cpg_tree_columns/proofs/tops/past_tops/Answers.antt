-- Proof of `past_tops`: returns, for each process, how far its top is past its due; `None` if it has none or isn't
-- past it.
use Rattle.std.proofs.Common.{None, get_or, rules}
use Rattle.cpg_base.specs.Duration.{due}
use Rattle.cpg_base.proofs.Lists.{map_below_push}
use Rattle.cpg_tree_columns.specs.Past.{time_past}
use Rattle.cpg_tree_columns.proofs.tops.past_tops.Goals as goal

-- how far this process is past its due is added
pub loop-process-preserved : goal.loop-process-preserved
loop-process-preserved c = map_below_push (λ q. time_past (due c.args.problem.now q) (get_or c.args.tops.now q None))
    c.loop-process.past.items c.push.new.self.items c.time_past.result
    c.loop-process.process c.loop-process.invariant
    (search rules) c.in_ok-push.ensures.items
