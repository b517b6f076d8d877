-- Proof of `trial`, which returns the text of the figures of a number's trial.
use Rattle.cpg_app.proofs.Safe.{compilations_are_safe}
use Rattle.cpg_app.proofs.trials.trial.Goals as goal

-- the tables are those of a compile, so they are safe
pub returns-in-Ok-trial_text-clause-text : goal.returns-in-Ok-trial_text-clause-text
returns-in-Ok-trial_text-clause-text c =
    let is = c.in-Ok.ensures in
    record {
      trial = c.in-Ok.trial;
      is = is;
      safe = compilations_are_safe is.admission.graph is.admitted.well_formed is.admission.order
          is.compiled is.compilation;
      spelled = c.in-Ok-trial_text.ensures;
    }
