-- Loops of `faulty`: the scenarios in which every value is false, with faults in all processes.
use Rattle.std.proofs.Common.{◌≡◌}
use Rattle.cpg_all_runs.specs.Listing.{with_faults_below}
use Rattle.cpg_all_runs.proofs.enumeration.faulty.Given as goal

-- the list has the scenarios in which every value is false, and only processes below `process` have faults
abbrev pub invariant-loop-process : goal.invariant-loop-process
invariant-loop-process l = l.list.items ≡ with_faults_below l.problem l.process
