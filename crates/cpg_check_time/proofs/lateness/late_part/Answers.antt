-- Proof of `late_part`: the part of a cube in whose scenarios an execution of a process that starts at `start` ends
-- after `time`.
use Rattle.std.proofs.Common.{arith}
use Rattle.cpg_check_time.proofs.Counts.{part_known}
use Rattle.cpg_check_time.proofs.lateness.late_part.Goals as goal

-- the number of a process fits in a byte
pub overflow_cast-process : goal.overflow_cast-process
overflow_cast-process c = omega (arith, c.requires.process, c.faults-high.ensures.within.few_processes)

-- the part has variables of the graph alone
pub returns-clause-known : goal.returns-clause-known
returns-clause-known c = part_known c.args.problem.now c.args.process c.requires.process c.args.cube.now c.in-Some.low
    c.faults-high.result c.in_ok-part.part c.requires.cube c.in_ok-part.ensures.cube
