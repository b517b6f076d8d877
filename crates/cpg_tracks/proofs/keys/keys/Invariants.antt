-- Loops of `keys`: returns the key of each process, by number.
use Rattle.std.proofs.Common.{◌+◌, ◌^◌}
use Rattle.cpg_tracks.specs.Walks.{KeysSoFar}
use Rattle.cpg_tracks.specs.Keys.{AreLow}
use Rattle.cpg_tracks.proofs.keys.keys.Given as goal

-- the keys of the processes so far are set; each process adds at most 1 to the bound 2 ^ 60 of the starts, so no key
-- overflows
abbrev pub invariant-loop-process : goal.invariant-loop-process
invariant-loop-process l = record {
  -- the keys of the processes so far are right
  set : KeysSoFar l.problem l.order l.schedules l.keys.items l.process-index;
  -- none is above the bound so far
  low : AreLow (2 ^ 60 + l.process-index) l.keys.items;
}
