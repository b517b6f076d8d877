-- Proof of `whole_ranges`: the ranges of all variables before anything is heard: each may have any number that the
-- faults allow.
use Rattle.cpg_base.proofs.Lists.{map_below_push}
use Rattle.cpg_node.specs.Dispatcher.{whole_range}
use Rattle.cpg_node.proofs.heard.whole_ranges.Goals as goal

-- the list had the ranges of the variables so far, and gets that of this one
pub loop-variable-preserved : goal.loop-variable-preserved
loop-variable-preserved c = map_below_push (whole_range c.args.faults) _ _ _ c.loop-variable.variable
    c.loop-variable.invariant c.whole_range.ensures c.in_ok-push.ensures.items
