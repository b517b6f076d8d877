-- Proof of `most`: how long a delay is at most, in any scenario.
use Rattle.std.proofs.Common.{◌≡◌, ◌+◌, ◌≤◌, sym, subst}
use Rattle.cpg_base.specs.Duration.{duration}
use Rattle.cpg_check_time.specs.Delays.{IsDelay, done_at}
use Rattle.cpg_check_time.proofs.DelayLaws.{most_faults}
use Rattle.cpg_check_time.proofs.delays.most.Goals as goal

-- an execution takes longest with all faults of the graph
pub returns-in-Execution-clause-most : goal.returns-in-Execution-clause-most
returns-in-Execution-clause-most c = λ s time lawful.
    let graph = c.args.problem.now in
    -- the result is how long an execution lasts with all faults of the graph
    let longest : c.duration.result ≡ duration graph c.in-Execution.process graph.faults =
    rw c.faults.ensures.faults at c.duration.ensures.duration in
    subst (λ d. done_at graph s d time ≤ time + c.duration.result) (sym c.in-Execution.is)
    (rw longest (most_faults graph c.faults.ensures.within.few_processes c.in-Execution.process
    (subst (IsDelay graph) c.in-Execution.is c.requires) s time lawful))
