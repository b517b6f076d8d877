-- Proof of `views`, which returns how many views an item has under an order: the scenarios in which each value that
-- the item's time doesn't depend on, and each value of an inactive process, is false, and each such fault count is 0.
use Rattle.std.proofs.Common.{◌∙◌, sym, ap}
use Rattle.cpg_base.specs.Graph.{process_count}
use Rattle.cpg_base.proofs.Places.{length_order}
use Rattle.cpg_reach.proofs.Widths.{has_views}
use Rattle.cpg_reach.proofs.width.views.Goals as goal

-- an order has each process of the graph once
pub of-requires : goal.of-requires
of-requires c = length_order (process_count c.args.admitted.now.graph) c.args.order.now c.requires.order.all
    ∙ ap (λ g. process_count g) (sym c.problem-problem.ensures.problem)

-- the views are counted by the reach that is found, which is that of the order
pub returns : goal.returns
returns c = has_views c.args.admitted.now.graph c.args.order.now c.requires.order c.args.admitted.now.guards
    c.args.admitted.now.order c.problem-problem.ensures.admitted
    c.in_ok-reaches.reaches.items c.in_ok-reaches.ensures c.args.item c.views-views.result c.index.result.now
    c.requires.item c.index.ensures c.views-views.ensures.views
