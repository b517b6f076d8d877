-- Loops of `first_end`: the first possible end of an execution after the last turn.
use Rattle.std.proofs.Common.{◌≡◌, ◌+◌, Some, map, filter, drop}
use Rattle.cpg_node.specs.Dispatcher.{least_of, is_after}
use Rattle.cpg_node.specs.State.{earlier}
use Rattle.cpg_node.proofs.executions.first_end.Given as goal

-- the earlier of `earliest` and the least end (after the last turn) of the durations left is that of all durations
abbrev pub invariant-loop-duration : goal.invariant-loop-duration
invariant-loop-duration l = earlier l.earliest
    (least_of (filter (is_after (Some l.last)) (map (λ d. l.start + d) (drop l.duration-index l.times)))) ≡ least_of
    (filter (is_after (Some l.last)) (map (λ d. l.start + d) l.times))
