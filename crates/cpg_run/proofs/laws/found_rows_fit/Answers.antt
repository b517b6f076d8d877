-- Proof of `found_rows_fit`: rows that are found are within the limits of a row and of all rows if no item is too wide.
use Rattle.cpg_run.proofs.laws.found_rows_fit.Goals as goal
use Rattle.cpg_run.proofs.Written.{found_rows_fit as law}

-- the lemma `found_rows_fit` of `proofs/Written` is the law
pub returns : goal.returns
returns c = law
