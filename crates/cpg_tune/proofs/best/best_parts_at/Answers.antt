-- Proof of `best_parts_at`: returns the best number of parts of a process: the least from 1 to 255 with which an
-- execution with all k faults is shortest.
use Rattle.std.proofs.Common.{◌≡◌, ◌∙◌, get_or, sym, ap, ap₂, subst}
use Rattle.std.proofs.lemmas.List.{get_or_default}
use Rattle.cpg_base.specs.Graph.{process_at}
use Rattle.cpg_tune.specs.Best.{best_of, IsBest}
use Rattle.cpg_tune.proofs.Fewest.{best_is_best}
use Rattle.cpg_tune.proofs.best.best_parts_at.Goals as goal

-- the number that is found for the process is its best one
pub returns-clause-best : goal.returns-clause-best
returns-clause-best c =
    let process = process_at c.args.problem.now c.args.process in
    let faults = c.args.problem.now.faults in
    -- what is found is the best number of the process with this number
    let is : c.best_of.result ≡ best_of process faults =
    c.best_of.ensures
    ∙ ap₂ best_of (c.index-processes-process.is ∙
    (ap (λ ps. get_or ps c.args.process c.index-processes-process.result) c.processes.ensures.processes
    ∙ get_or_default c.args.problem.now.processes c.args.process _ _ c.requires))
    c.faults.ensures.faults in
    subst (IsBest process faults) (sym is) (best_is_best process faults)
