-- Loops of `add_times_of`, which adds the arrival times in the hear rows of sender `other`, row by row; `senders`
-- has the sender of each row.
use Rattle.std.proofs.Common.{◌≡◌, ◌++◌, drop}
use Rattle.cpg_cluster.specs.Keeping.{arrival_times}
use Rattle.cpg_cluster.proofs.arrivals.add_times_of.Given as goal

-- the times so far, followed by the arrival times of the rows that are left, are the old times followed by those of
-- all rows
abbrev pub invariant-loop-place : goal.invariant-loop-place
invariant-loop-place l = l.times.items ++ arrival_times l.other (drop l.place l.rows) (drop l.place l.senders)
    ≡ l.fn.times.items ++ arrival_times l.other l.rows l.senders
