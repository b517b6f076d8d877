-- Loops of `spread_faults`: each of the scenarios with each fault count of a process that the others leave.
use Rattle.std.proofs.Common.{◌≡◌, take}
use Rattle.std.specs.List.{flat_map}
use Rattle.cpg_all_runs.specs.Listing.{with_each_fault}
use Rattle.cpg_all_runs.proofs.enumeration.spread_faults.Given as goal

-- `more` has each of the scenarios so far with each fault count that the process may have
abbrev pub invariant-loop-scenario : goal.invariant-loop-scenario
invariant-loop-scenario l =
    l.more.items ≡ flat_map (with_each_fault l.problem l.process) (take l.scenario-index l.scenarios)
