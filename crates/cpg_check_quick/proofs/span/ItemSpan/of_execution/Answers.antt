-- Proof of `ItemSpan::of_execution`: how long an execution of a process lasts at most, by its faults.
use Rattle.std.proofs.Common.{◌∙◌, ap, arith, min, refl}
use Rattle.cpg_base.specs.Duration.{duration}
use Rattle.cpg_check_quick.proofs.OrderLaws.{span_of}
use Rattle.cpg_check_quick.proofs.span.ItemSpan.of_execution.Goals as goal

-- each length is the duration with that many faults, or with the graph's most if that is fewer
pub returns : goal.returns
returns c =
    let graph = c.args.problem.now in
    let faults = c.faults-faults.ensures.faults in
    span_of graph c.faults-faults.ensures.within.few_processes c.args.process c.requires
    (record { variable = c.args.process; lengths = c.loop-count.lengths; longest = c.duration-2.result }) refl
    (λ n k. c.loop-count.invariant.done n (omega (arith, k, c.loop-count-test.false))
    ∙ ap (λ f. duration graph c.args.process (min f n)) faults)
    (c.duration-2.ensures.duration ∙ ap (duration graph c.args.process) faults)
