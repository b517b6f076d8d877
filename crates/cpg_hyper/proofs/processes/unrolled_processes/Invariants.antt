-- Loops of `unrolled_processes`, which returns the processes of all instances of all parts.
use Rattle.std.proofs.Common.{◌≡◌, ◌++◌, drop}
use Rattle.cpg_hyper.specs.Unrolled.{processes_from}
use Rattle.cpg_hyper.specs.Refusals.{HoldsBefore, HasShortNames}
use Rattle.cpg_hyper.proofs.processes.unrolled_processes.Given as goal

-- the processes of all parts are those listed so far, and then those of the parts that are left; the parts so far
-- have short names
abbrev pub invariant-loop-place : goal.invariant-loop-place
invariant-loop-place l = record {
  processes : processes_from l.whole 0 l.parts ≡ l.processes.items
      ++ processes_from l.whole l.place (drop l.place l.parts);
  short : HoldsBefore (HasShortNames l.whole) l.parts l.place;
}
