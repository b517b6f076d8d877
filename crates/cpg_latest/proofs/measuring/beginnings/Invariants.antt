-- Loops of `beginnings`: a lane for each of `count` tracks, in whose courses nothing is known.
use Rattle.std.proofs.Common.{◌≡◌, replicate}
use Rattle.cpg_latest.specs.Lanes.{no_lane}
use Rattle.cpg_latest.proofs.measuring.beginnings.Given as goal

-- there is one lane in which nothing is known for each turn so far
abbrev pub invariant-loop : goal.invariant-loop
invariant-loop l = l.lanes.items ≡ replicate l.counter (no_lane l.problem)
