-- Proof of `plays_are_followed`: the records of each node of a play are a lawful stream, on which the node does what
-- it does in the play.
use Rattle.cpg_follow_laws.proofs.Follow.{plays_are_followed as law}
use Rattle.cpg_follow_laws.proofs.plays_are_followed.Goals as goal

-- `plays_are_followed` of `Follow` proves this law
pub returns : goal.returns
returns c = law
