-- Proof of `bytes_of_plays_give_what_is_due`: if a node is done in a play, the bytes that spell its records, in any order in
-- which time doesn't fall, and a close are a stream that is lawful to its close. On it the node does what is due.
use Rattle.cpg_follow_laws.proofs.Streams.{bytes_give as law}
use Rattle.cpg_follow_laws.proofs.bytes_of_plays_give_what_is_due.Goals as goal

-- `bytes_give` of `Streams` proves this law
pub returns : goal.returns
returns c = law
