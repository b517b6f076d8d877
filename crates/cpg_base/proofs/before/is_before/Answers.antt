-- Proof of `is_before`: returns whether the first scenario comes before the second: at the first process in the order
-- at which they differ, the first has fewer faults, or as many and a false value of the process's condition.
use Rattle.std.proofs.Common.{◌<◌, get_or, length}
use Rattle.std.proofs.lemmas.List.Elements.{Contains-get_or}
use Rattle.cpg_base.proofs.Places.{from_order}
use Rattle.cpg_base.proofs.before.is_before.Goals as goal

-- the order has as many processes as the graph and only numbers below that, so each is a process of the graph
pub at_process-requires : goal.at_process-requires
at_process-requires c =
    let same = c.processes-process-items.ensures in
    let order = c.args.order.now in
    let within : c.loop-process.process-index < length order = rw same.processes at c.loop-process-test.true in
    -- the number at this place of the order is below the length of the order
    let below = from_order (length order) order same.order.all (get_or order c.loop-process.process-index 0)
    (Contains-get_or order c.loop-process.process-index 0 within) in
    record {
      process = rw same.processes (rw c.requires.order at below);
      first = c.requires.first;
      second = c.requires.second;
    }
