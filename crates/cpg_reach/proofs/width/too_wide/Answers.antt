-- Proof of `too_wide`, which returns the least item that is too wide under an order; `None` exactly if there is none.
use Rattle.std.proofs.Common.{◌∙◌, sym, ap, arith}
use Rattle.cpg_base.specs.Graph.{process_count}
use Rattle.cpg_base.proofs.Places.{length_order}
use Rattle.cpg_reach.proofs.Widths.{loads_next, least_wide}
use Rattle.cpg_reach.proofs.width.too_wide.Goals as goal

-- an order has each process of the graph once
pub of-requires : goal.of-requires
of-requires c = length_order (process_count c.args.admitted.now.graph) c.args.order.now c.requires.all
    ∙ ap (λ g. process_count g) (sym c.problem-problem.ensures.problem)

-- this item's check failed, so it is too wide, and none before it is, since theirs passed
pub returns-in-None-clause-some : goal.returns-in-None-clause-some
returns-in-None-clause-some c = least_wide c.args.admitted.now.graph c.args.order.now c.requires
    c.in_ok-reaches.reaches.items c.in_ok-reaches.ensures c.loop-item.item c.loop-item.loads
    c.loop-item.invariant.loads
    (let count = c.in_ok-reaches.ensures.count in
    omega arith) c.index-reached.result.now c.index-reached.ensures c.in-None.ensures.none

-- the item is not too wide, so the loads take in its own
pub loop-item-preserved : goal.loop-item-preserved
loop-item-preserved c = record {
  counter = c.in-Some.ensures.counter;
  loads = loads_next c.args.admitted.now.graph c.args.order.now c.requires c.in_ok-reaches.reaches.items
      c.in_ok-reaches.ensures c.loop-item.item c.loop-item.loads c.loop-item.invariant.loads
      (let count = c.in_ok-reaches.ensures.count in
      omega arith) c.index-reached.result.now c.index-reached.ensures c.in-Some.sum c.in-Some.ensures.some;
}
