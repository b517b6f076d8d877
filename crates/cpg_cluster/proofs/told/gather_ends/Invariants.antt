-- Loops of `gather_ends`, which adds the reports whose planned end is this time, each with it, by process.
use Rattle.std.proofs.Common.{◌≡◌, ◌++◌, drop}
use Rattle.std.specs.Vec.{vec_capacity}
use Rattle.cpg_cluster.specs.Taking.{ends_by}
use Rattle.cpg_cluster.proofs.told.gather_ends.Given as goal

-- the ends so far, followed by those of the processes that are left, are the old ends followed by those of all
-- processes
abbrev pub invariant-loop-place : goal.invariant-loop-place
invariant-loop-place l = record {
  ends : l.ends.items ++ ends_by l.time (drop l.place l.own) (drop l.place l.running) ≡ l.fn.ends.items
      ++ ends_by l.time l.own l.running;
  room : vec_capacity l.ends ≡ vec_capacity l.fn.ends;
}
