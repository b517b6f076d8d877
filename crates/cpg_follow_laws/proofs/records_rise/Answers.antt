-- Proof of `records_rise`: a node's records in a play are in order of time, and a close that isn't before its last turn
-- isn't before any of them.
use Rattle.cpg_follow_laws.proofs.Rising.{records_rise as law}
use Rattle.cpg_follow_laws.proofs.records_rise.Goals as goal

-- `records_rise` of `Rising` proves this law
pub returns : goal.returns
returns c = law
