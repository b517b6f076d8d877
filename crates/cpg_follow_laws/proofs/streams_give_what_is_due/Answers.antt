-- Proof of `streams_give_what_is_due`: if a node is done in a play, its records and a close that isn't before its last turn
-- are a lawful stream, on which the node does what is due.
use Rattle.cpg_follow_laws.proofs.Follow.{streams_give as law}
use Rattle.cpg_follow_laws.proofs.streams_give_what_is_due.Goals as goal

-- `streams_give` of `Follow` proves this law
pub returns : goal.returns
returns c = law
