-- Loops of `gather_reports`, which adds the reports of executions that are over by the time and haven't been taken,
-- by process.
use Rattle.std.proofs.Common.{◌≡◌, ◌++◌, drop}
use Rattle.std.specs.Vec.{vec_capacity}
use Rattle.cpg_cluster.specs.Taking.{reports_by}
use Rattle.cpg_cluster.proofs.told.gather_reports.Given as goal

-- the reports so far, followed by those of the processes that are left, are the old reports followed by those of all
abbrev pub invariant-loop-place : goal.invariant-loop-place
invariant-loop-place l = record {
  reports : l.reports.items
      ++ reports_by l.problem (record { scenario = l.scenario; lengths = l.lengths }) l.time (drop l.place l.own)
      (drop l.place l.running) ≡ l.fn.reports.items
      ++ reports_by l.problem (record { scenario = l.scenario; lengths = l.lengths }) l.time l.own l.running;
  room : vec_capacity l.reports ≡ vec_capacity l.fn.reports;
}
