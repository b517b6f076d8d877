-- Loops of `add_faults`: adds the scenario with each fault count of a process that the faults left by the other
-- processes allow.
use Rattle.std.proofs.Common.{◌≡◌, ◌++◌, map}
use Rattle.cpg_base.specs.Numbers.{numbers_below}
use Rattle.cpg_all_runs.specs.Listing.{with_fault}
use Rattle.cpg_all_runs.proofs.enumeration.add_faults.Given as goal

-- the scenarios are the old ones followed by the scenario with each count of the process below `faults`
abbrev pub invariant-loop-faults : goal.invariant-loop-faults
invariant-loop-faults l =
    l.scenarios.items ≡ l.fn.scenarios.items ++ map (with_fault l.process l.scenario) (numbers_below l.faults)
