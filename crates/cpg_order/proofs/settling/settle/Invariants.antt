-- Loops of `settle`: settles all processes that can be settled, each after the sources of its inputs.
use Rattle.std.proofs.Common.{◌-◌}
use Rattle.cpg_base.specs.Graph.{process_count}
use Rattle.cpg_order.specs.Settling.{AreSettled}
use Rattle.cpg_order.proofs.settling.settle.Given as goal

-- the first `settled` processes of the list are settled, and each process waits for its inputs from the others
abbrev pub invariant-loop-settled : goal.invariant-loop-settled
invariant-loop-settled l = AreSettled l.problem l.settled l.waiting.items l.ready.items

-- each turn settles one process more, and there are no more ready processes than processes
abbrev pub decreases-loop-settled : goal.decreases-loop-settled
decreases-loop-settled l = process_count l.problem - l.settled
