-- Proof of `events_in_order`: the events of all nodes in the order of a trace: by time, by node, then by kind and number.
use Rattle.std.proofs.Common.{IsPermutation, subst}
use Rattle.cpg_show.proofs.TraceOrder.{in_order}
use Rattle.cpg_show.proofs.events.events_in_order.Goals as goal

-- sorting leaves the same events, and puts them in order
pub returns : goal.returns
returns c = record {
  all = subst (λ xs. IsPermutation xs c.sort_unstable.new.self.items) c.in_ok-events.ensures
      c.sort_unstable.ensures.permutation;
  in_order = in_order c.sort_unstable.new.self.items c.sort_unstable.ensures.sorted;
}
