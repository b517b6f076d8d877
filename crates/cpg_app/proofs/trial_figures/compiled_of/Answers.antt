-- Proof of `compiled_of`, which returns the tables of a generated graph.
use Rattle.cpg_app.proofs.Figures.{compile_fault}
use Rattle.cpg_app.proofs.trial_figures.compiled_of.Goals as goal

-- a generated graph has tables, so the fault can only be that memory ran out
pub uncompiled-requires : goal.uncompiled-requires
uncompiled-requires c = compile_fault c.args.admitted.now.graph c.args.admitted.now.order c.in-Err.fault c.requires
    c.problem-graph.ensures.admitted.topological c.in-Err.ensures.fault
