-- Proof of `listed_rows_carry`: the columns of merged entries say no more than is carried beside their times.
use Rattle.cpg_run.proofs.laws.listed_rows_carry.Goals as goal
use Rattle.cpg_run.proofs.ListedRows.{listed_rows_carry as law}

-- the lemma `listed_rows_carry` of `proofs/ListedRows` is the law
pub returns : goal.returns
returns c = law
