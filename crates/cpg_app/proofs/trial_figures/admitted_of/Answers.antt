-- Proof of `admitted_of`, which returns the graph that a number generates, as it is admitted.
use Rattle.cpg_app.proofs.Figures.{admission_fault}
use Rattle.cpg_app.proofs.trial_figures.admitted_of.Goals as goal

-- a generated graph keeps all rules, so the fault can only be that memory ran out
pub unadmitted-requires : goal.unadmitted-requires
unadmitted-requires c = admission_fault c.args.number c.in_ok-problem.problem c.in-Err.refused.fault
    c.in_ok-problem.ensures c.in-Err.ensures.fault
