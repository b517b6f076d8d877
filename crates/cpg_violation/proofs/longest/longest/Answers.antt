-- Proof of `longest`: how long an execution of a process takes at most in the scenarios of a space: with the most
-- faults that the space leaves it.
use Rattle.std.proofs.Common.{◌≤◌, ◌<◌, arith}
use Rattle.cpg_base.specs.Scenario.{fault_of}
use Rattle.cpg_base.proofs.NumbersOf.{number_of-fault}
use Rattle.cpg_violation.proofs.Durations.{duration_grows, fault_within}
use Rattle.cpg_violation.proofs.longest.longest.Goals as goal

-- the process has no more faults than the space allows, and with fewer it takes no longer
pub returns-clause-most : goal.returns-clause-most
returns-clause-most c s lawful lies =
    let graph = c.args.problem.now in
    let process = c.args.process in
    let few = c.faults-faults.ensures.within.few_processes in
    let short : process < 128 = omega (arith, few, c.requires) in
    -- the scenario gives the process at most the faults that the space allows
    let faults : fault_of s process ≤ c.min.result =
    omega (
      arith,
      fault_within graph few process c.requires s lawful,
      number_of-fault s process short,
      c.most-most.ensures s lies,
      c.min.ensures,
      c.faults-faults.ensures.faults,
    ) in
    omega (arith, c.duration.ensures.duration, duration_grows graph process (fault_of s process) c.min.result faults)
