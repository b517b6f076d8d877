-- Proof of `plays_that_end_are_whole`: in a play in which each node is done, all that is due was done, in whatever
-- order the nodes were asked.
use Rattle.cpg_cluster.proofs.plays_that_end_are_whole.Goals as goal
use Rattle.cpg_cluster.proofs.Dues.{done_whole}

-- `done_whole` of `Dues` proves this law
pub returns : goal.returns
returns c = done_whole
