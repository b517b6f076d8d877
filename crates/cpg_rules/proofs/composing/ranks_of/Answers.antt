-- Proof of `ranks_of`: returns the rank of each condition, by number: the place of its process in the order.
use Rattle.std.proofs.Common.{ap, ◌∙◌}
use Rattle.cpg_base.specs.Graph.{process_of}
use Rattle.cpg_base.specs.Order.{place}
use Rattle.cpg_base.proofs.Lists.{map_below_push}
use Rattle.cpg_rules.proofs.composing.ranks_of.Goals as goal

-- the rank of one more condition is found
pub loop-condition-preserved : goal.loop-condition-preserved
loop-condition-preserved c = map_below_push (λ d. place c.args.order.now (process_of c.args.problem.now d))
    c.loop-condition.ranks.items c.push.new.self.items c.place.result c.loop-condition.condition
    c.loop-condition.invariant (c.place.ensures.place ∙ ap (place c.args.order.now) c.process_of.ensures.process)
    c.in_ok-push.ensures.items
