-- Loops of `add_acts`: adds the starts and sends of a node as events.
use Rattle.std.proofs.Common.{◌≡◌, ◌++◌, drop, map}
use Rattle.cpg_show.specs.TraceEvents.{event_of_act}
use Rattle.cpg_show.proofs.events.add_acts.Given as goal

-- the events so far and those of the acts left are together the events before and those of all acts
abbrev pub invariant-loop-act : goal.invariant-loop-act
invariant-loop-act l = l.events.items ++ map (event_of_act l.problem l.node) (drop l.act-index l.acts)
    ≡ l.fn.events.items ++ map (event_of_act l.problem l.node) l.acts
