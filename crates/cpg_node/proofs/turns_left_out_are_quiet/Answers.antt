-- Proof of `turns_left_out_are_quiet`: at an instant that is neither the time of a column nor an awaited end, a turn
-- is quiet.
use Rattle.cpg_node.proofs.Quiet.{turns_left_out}
use Rattle.cpg_node.proofs.turns_left_out_are_quiet.Goals as goal

-- `turns_left_out` of the lemmas is a proof of this law
pub returns : goal.returns
returns c = turns_left_out
