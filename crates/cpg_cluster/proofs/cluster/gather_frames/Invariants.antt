-- Loops of `gather_frames`, which replaces `frames` with those that arrive at the time, hear row by hear row;
-- `senders` has the sender of each row.
use Rattle.std.proofs.Common.{◌≡◌, ◌++◌, drop}
use Rattle.std.specs.Vec.{vec_capacity}
use Rattle.cpg_cluster.specs.Keeping.{frames_by}
use Rattle.cpg_cluster.proofs.cluster.gather_frames.Given as goal

-- the frames so far, followed by those of the rows that are left, are the frames of all rows; the capacity is
-- unchanged
abbrev pub invariant-loop-place : goal.invariant-loop-place
invariant-loop-place l = record {
  frames : l.frames.items ++ frames_by l.problem l.scenario.values l.members l.time (drop l.place l.rows)
      (drop l.place l.senders) ≡ frames_by l.problem l.scenario.values l.members l.time l.rows l.senders;
  room : vec_capacity l.frames ≡ vec_capacity l.fn.frames;
}
