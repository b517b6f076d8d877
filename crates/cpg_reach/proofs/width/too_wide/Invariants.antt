-- Loops of `too_wide`, which returns the least item that is too wide under an order; `None` exactly if there is none.
use Rattle.cpg_reach.specs.Counter.{IsCounterFor}
use Rattle.cpg_reach.proofs.Widths.{AreLoads}
use Rattle.cpg_reach.proofs.width.too_wide.Given as goal

-- `counter`: the counter has its table of ways, the conditions in order, and each value false. `loads`: the loads of
-- the items below `item` sum up to this and are within the limit, and none of these items is too wide.
abbrev pub invariant-loop-item : goal.invariant-loop-item
invariant-loop-item l = record {
  counter : IsCounterFor l.admitted.graph l.order l.counter;
  loads : AreLoads l.admitted.graph l.order l.item l.loads;
}
