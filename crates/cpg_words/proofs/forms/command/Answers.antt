-- Proof of `command`, which returns the command of this name with these positionals and these values of `--turns`.
use Rattle.cpg_words.proofs.WholeLine.{no_such_form}
use Rattle.cpg_words.specs.Forms.{forms}
use Rattle.cpg_words.proofs.forms.command.Goals as goal

-- the name is none of the ten, so no form has it; the tuple has one inequality for each form, in the order of the list
pub returns-in_default : goal.returns-in_default
returns-in_default c = let differs = c.in_default in no_such_form forms _ _ (
  differs.not-show,
  (
    differs.not-compile,
    (
      differs.not-check,
      (
        differs.not-play,
        (
          differs.not-node,
          (
            differs.not-trial,
            (differs.not-live, (differs.not-hyper, (differs.not-tune, (differs.not-audit, tt)))),
          ),
        ),
      ),
    ),
  ),
)
