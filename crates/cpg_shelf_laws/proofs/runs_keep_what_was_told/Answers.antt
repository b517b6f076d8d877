-- Proof of `runs_keep_what_was_told`: a lawful run that keeps its shelf also keeps the contract over what the shelf
-- reports.
use Rattle.cpg_shelf_laws.proofs.Kept.{kept}
use Rattle.cpg_shelf_laws.proofs.runs_keep_what_was_told.Goals as goal

-- `kept` of `Kept` says just this of each run
pub returns : goal.returns
returns c = kept
