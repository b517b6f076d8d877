-- Proof of `tables_have_one_verdict`: a check has no choice of what it answers.
use Rattle.cpg_check.proofs.OneVerdict.{have_one_verdict}
use Rattle.cpg_check.proofs.tables_have_one_verdict.Goals as goal

-- any two answers that the contract of a check allows are the same (`have_one_verdict`)
pub returns : goal.returns
returns c = have_one_verdict
