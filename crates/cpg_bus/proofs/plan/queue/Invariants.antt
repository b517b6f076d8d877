-- Loops of `queue`: returns the items that a process sends: its broadcast first, then its messages by number.
use Rattle.std.proofs.Common.{◌≡◌, ◌++◌, map, filter, take}
use Rattle.cpg_base.specs.Graph.{outputs, is_message, message_item, condition_of}
use Rattle.cpg_bus.specs.Plan.{broadcasts_of}
use Rattle.cpg_bus.proofs.plan.queue.Given as goal

-- the list has the broadcast of the process, if it has one, and the message of each output so far that is a message
abbrev pub invariant-loop-edge : goal.invariant-loop-edge
invariant-loop-edge l =
    l.items.items ≡ broadcasts_of l.problem (condition_of l.problem l.process) ++ map (message_item l.problem)
    (filter (is_message l.problem) (take l.edge-index (outputs l.problem l.process)))
