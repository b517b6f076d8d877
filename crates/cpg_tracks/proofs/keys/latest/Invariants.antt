-- Loops of `latest`: returns the latest start of a process in these schedules, and 0 if it has none in any.
use Rattle.std.proofs.Common.{◌≡◌, take}
use Rattle.cpg_tracks.specs.Keys.{latest}
use Rattle.cpg_tracks.proofs.keys.latest.Given as goal

-- `latest` is the latest start of the process in the schedules so far
abbrev pub invariant-loop-starts : goal.invariant-loop-starts
invariant-loop-starts l = l.latest ≡ latest (take l.starts-index l.schedules) l.process
