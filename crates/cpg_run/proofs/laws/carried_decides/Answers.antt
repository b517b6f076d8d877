-- Proof of `carried_decides`: what is carried beside a time decides it.
use Rattle.cpg_run.proofs.laws.carried_decides.Goals as goal
use Rattle.cpg_run.proofs.SameSends.{carried_decides as law}

-- the lemma `carried_decides` of `proofs/SameSends` is the law
pub returns : goal.returns
returns c = law
