-- Proof of `latest_are_reached`: each latest time of an outcome with n faults is reached in some run of it with at most
-- n faults.
use Rattle.cpg_latest.proofs.latest_are_reached.Goals as goal
use Rattle.cpg_latest.proofs.Reached.{are_reached}

-- the lemma `are_reached` is the law
pub returns : goal.returns
returns c = λ g order frozen values late n topological long are few.
    are_reached g order frozen values late topological long are n few
