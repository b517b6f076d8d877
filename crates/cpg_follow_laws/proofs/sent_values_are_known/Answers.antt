-- Proof of `sent_values_are_known`: in a play of valid tables, a node that has broadcast the value of a condition knows
-- just that value of it.
use Rattle.cpg_follow_laws.proofs.Sent.{sent_values_are_known as law}
use Rattle.cpg_follow_laws.proofs.sent_values_are_known.Goals as goal

-- `sent_values_are_known` of `Sent` proves this law
pub returns : goal.returns
returns c = law
