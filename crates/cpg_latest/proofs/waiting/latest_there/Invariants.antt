-- Loops of `latest_there`: when all of these inputs are there in a course, or 0 if there are none.
use Rattle.std.proofs.Common.{◌≡◌, map, take}
use Rattle.cpg_base.specs.Numbers.{greatest}
use Rattle.cpg_run.specs.Run.{input_there}
use Rattle.cpg_latest.proofs.waiting.latest_there.Given as goal

-- `latest` is when all inputs so far are there, or 0 if there is none yet
abbrev pub invariant-loop-edge : goal.invariant-loop-edge
invariant-loop-edge l = l.latest ≡ greatest (map (input_there l.problem l.course.known) (take l.edge-index l.edges))
