-- Proof of `found_rows_are_writable`: rows that are found can be written as tables, if they are within the limits of
-- a row and of all rows.
use Rattle.cpg_run.proofs.laws.found_rows_are_writable.Goals as goal
use Rattle.cpg_run.proofs.Written.{found_rows_are_writable as law}

-- the lemma `found_rows_are_writable` of `proofs/Written` is the law
pub returns : goal.returns
returns c = law
