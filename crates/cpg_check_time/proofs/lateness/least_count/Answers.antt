-- Proof of `least_count`: the least count of faults with which an execution that starts at `start` ends after `time`.
use Rattle.std.proofs.Common.{◌+◌, ◌<◌, arith}
use Rattle.cpg_base.specs.Duration.{duration}
use Rattle.cpg_check_time.proofs.Counts.{first_is_least}
use Rattle.cpg_check_time.proofs.lateness.least_count.Goals as goal

-- with no lesser count it ends late, and with a greater one it lasts at least as long, so this count is the least
pub returns-then-start-duration-clause-some : goal.returns-then-start-duration-clause-some
returns-then-start-duration-clause-some c =
    let late : c.args.time < c.args.start + duration c.args.problem.now c.args.process c.loop-faults.faults =
    omega (arith, c.if-start-duration.true, c.duration.ensures.duration) in
    first_is_least c.args.problem.now c.args.process c.args.start c.args.time c.loop-faults.faults
    c.loop-faults.invariant late
