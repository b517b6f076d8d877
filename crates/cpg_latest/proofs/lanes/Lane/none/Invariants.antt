-- Loops of `Lane::none`: a lane in whose courses nothing is known, and all nodes are ready and their slots free at 0.
use Rattle.std.proofs.Common.{◌≡◌, length, replicate}
use Rattle.cpg_run.specs.Known.{no_times}
use Rattle.cpg_latest.proofs.lanes.Lane.none.Given as goal

-- there is one course in which nothing is known for each turn so far
abbrev pub invariant-loop : goal.invariant-loop
invariant-loop l = l.courses.items ≡ replicate l.counter
    (record { known = no_times l.problem; ready = replicate (length l.problem.nodes) 0; free = replicate (length l.problem.nodes) 0 })
