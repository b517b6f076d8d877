-- Proof of `counts_by`: with how many of the fault counts, from 0 on, an execution that starts at `start` ends by
-- `time`: with fewer faults than the result it does, and with as many or more it doesn't.
use Rattle.std.proofs.Common.{◌-◌, ◌<◌, arith}
use Rattle.cpg_base.specs.Duration.{duration}
use Rattle.cpg_check_heard.proofs.Counts.{counts_here}
use Rattle.cpg_check_heard.proofs.parts.counts_by.Goals as goal

-- with each lesser count it ends in time, and with each greater one it lasts at least as long, so the first count with
-- which it ends too late is how many let it end in time
pub returns-then-duration-left-clause-counts : goal.returns-then-duration-left-clause-counts
returns-then-duration-left-clause-counts c =
    let here : c.args.time - c.args.start < duration c.args.problem.now c.args.process c.loop-count.count =
    omega (arith, c.if-duration-left.true, c.duration.ensures.duration) in
    counts_here c.args.problem.now c.args.process c.args.start c.args.time c.if-start-time.false c.loop-count.count
    c.loop-count.invariant here
