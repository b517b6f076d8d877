-- Loops of `latest_heard`: when a node has heard each of these conditions in a course, or 0 if there are none.
use Rattle.std.proofs.Common.{◌≡◌, map, take}
use Rattle.cpg_base.specs.Numbers.{greatest}
use Rattle.cpg_run.specs.Run.{heard_there}
use Rattle.cpg_latest.proofs.waiting.latest_heard.Given as goal

-- `latest` is when the node has heard each of the conditions so far, or 0 if there is none yet
abbrev pub invariant-loop-condition : goal.invariant-loop-condition
invariant-loop-condition l =
    l.latest ≡ greatest (map (heard_there l.problem l.course.known l.node) (take l.condition-index l.conditions))
