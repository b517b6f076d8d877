-- Loops of `queues`: returns the items that each process sends, by process.
use Rattle.std.proofs.Common.{◌≡◌, map}
use Rattle.cpg_base.specs.Numbers.{numbers_below}
use Rattle.cpg_bus.specs.Plan.{queue_of}
use Rattle.cpg_bus.proofs.plan.queues.Given as goal

-- after each process, the list has the queue of each process so far
abbrev pub invariant-loop-process : goal.invariant-loop-process
invariant-loop-process l = l.queues.items ≡ map (queue_of l.problem) (numbers_below l.process)
