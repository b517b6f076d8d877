-- Loops of `write_events`: writes the lines of events.
use Rattle.std.proofs.Common.{◌≡◌, ◌++◌, drop, flat_map, string_bytes}
use Rattle.cpg_show.specs.TraceText.{event_line}
use Rattle.cpg_show.proofs.trace.write_events.Given as goal

-- what is written and the lines of the events left are together what stood before and the lines of all events
abbrev pub invariant-loop-event : goal.invariant-loop-event
invariant-loop-event l = string_bytes l.fn.out ++ flat_map (event_line l.problem l.lengths) l.events
    ≡ string_bytes l.out ++ flat_map (event_line l.problem l.lengths) (drop l.event-index l.events)
