-- Loops of `add_ends`: adds the ends of a node's executions as events.
use Rattle.std.proofs.Common.{◌≡◌, ◌++◌, drop, map}
use Rattle.cpg_show.specs.TraceEvents.{event_of_end}
use Rattle.cpg_show.proofs.events.add_ends.Given as goal

-- the events so far and those of the ends left are together the events before and those of all ends
abbrev pub invariant-loop-end : goal.invariant-loop-end
invariant-loop-end l = l.events.items ++ map (event_of_end l.node) (drop l.end-index l.ends) ≡ l.fn.events.items
    ++ map (event_of_end l.node) l.ends
