-- Loops of `active_marks`: returns for each process, by number, whether it is active in the track.
use Rattle.std.proofs.Common.{ℕ, ◌≡◌, true, false, Contains, get_or, length, take}
use Rattle.cpg_base.specs.Graph.{process_count}
use Rattle.cpg_tracks.proofs.timing.active_marks.Given as goal

-- there is a mark for each process, and it is set exactly at the active processes so far
abbrev pub invariant-loop-process : goal.invariant-loop-process
invariant-loop-process l = record {
  -- there is a mark for each process
  count : length l.marks.items ≡ process_count l.problem;
  -- the marks of the active processes so far are set
  marked : (p : ℕ) → Contains (take l.process-index l.track.active) p → get_or l.marks.items p false ≡ true;
  -- no other mark is
  only : (p : ℕ) → get_or l.marks.items p false ≡ true → Contains (take l.process-index l.track.active) p;
}
