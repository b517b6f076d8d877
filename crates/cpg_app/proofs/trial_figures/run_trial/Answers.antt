-- Proof of `run_trial`, which generates the graph of a number, admits and compiles it, checks its tables, and plays
-- them in three scenarios, driven by the number.
use Rattle.cpg_app.proofs.Figures.{trial_is}
use Rattle.cpg_app.proofs.trial_figures.run_trial.Goals as goal

-- the figures are those of the graph of this number and of its tables
pub returns : goal.returns
returns c = trial_is c.args.number c.in_ok-admitted.admitted c.in_ok-compiled.compiled c.in_ok-admitted.ensures.graph
    c.in_ok-admitted.ensures.admitted c.in_ok-compiled.ensures c.figures_of.result
    c.figures_of.ensures
