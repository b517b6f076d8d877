-- Proof of `quiet_turns_change_nothing`: a turn at which nothing ends, arrives or is due changes nothing but the last
-- instant.
use Rattle.cpg_node.proofs.Quiet.{quiet_turns}
use Rattle.cpg_node.proofs.quiet_turns_change_nothing.Goals as goal

-- `quiet_turns` of the lemmas is a proof of this law
pub returns : goal.returns
returns c = quiet_turns
