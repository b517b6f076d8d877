-- Proof of `carried_rests_on_earlier`: what is carried beside a time is found in the rows of items from earlier processes.
use Rattle.cpg_run.proofs.laws.carried_rests_on_earlier.Goals as goal
use Rattle.cpg_run.proofs.CarriedBefore.{carried_rests_on_earlier as law}

-- the lemma `carried_rests_on_earlier` of `proofs/CarriedBefore` is the law
pub returns : goal.returns
returns c = law
