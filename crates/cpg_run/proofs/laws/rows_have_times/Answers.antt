-- Proof of `rows_have_times`: rows of merged entries have the times of the runs.
use Rattle.cpg_run.proofs.laws.rows_have_times.Goals as goal
use Rattle.cpg_run.proofs.ListedRows.{rows_have_times as law}

-- the lemma `rows_have_times` of `proofs/ListedRows` is the law
pub returns : goal.returns
returns c = law
