-- Proof of `plays_that_end_are_alike`: in two plays of one world in which each node is done, the nodes did the same,
-- in whatever order they were asked.
use Rattle.cpg_cluster.proofs.plays_that_end_are_alike.Goals as goal
use Rattle.cpg_cluster.proofs.Dues.{plays_that_end_are_alike as law}

-- `plays_that_end_are_alike` of `Dues` proves this law
pub returns : goal.returns
returns c = law
