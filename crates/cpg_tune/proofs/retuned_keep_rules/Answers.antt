-- Proof of `retuned_keep_rules`: a graph with other parts and another fault number has the same tracks, and keeps the
-- rules on cycles, joins, slots, sizes and given orders that it kept before.
use Rattle.cpg_tune.proofs.Kept.{keeps_rules}
use Rattle.cpg_tune.proofs.retuned_keep_rules.Goals as goal

-- edges, conditions, activations and slots are the same, and no rule looks at anything else
pub returns : goal.returns
returns c = keeps_rules
