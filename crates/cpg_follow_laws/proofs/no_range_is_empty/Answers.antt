-- Proof of `no_range_is_empty`: whatever bytes a node is fed, no range that it then holds is empty.
use Rattle.cpg_follow_laws.proofs.Ranges.{no_range_is_empty as law}
use Rattle.cpg_follow_laws.proofs.no_range_is_empty.Goals as goal

-- `no_range_is_empty` of `Ranges` proves this law
pub returns : goal.returns
returns c = law
