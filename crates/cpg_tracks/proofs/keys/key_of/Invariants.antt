-- Loops of `key_of`: returns the key of a process: the greatest of its latest start and one more than the key of each
-- predecessor.
use Rattle.std.proofs.Common.{◌≡◌, take}
use Rattle.cpg_base.specs.Graph.{inputs}
use Rattle.cpg_tracks.specs.Tracks.{key_over}
use Rattle.cpg_tracks.proofs.keys.key_of.Given as goal

-- `key` is the key of the process if it had only the inputs so far
abbrev pub invariant-loop-edge : goal.invariant-loop-edge
invariant-loop-edge l =
    l.key ≡ key_over l.problem l.schedules l.keys l.process (take l.edge-index (inputs l.problem l.process))
