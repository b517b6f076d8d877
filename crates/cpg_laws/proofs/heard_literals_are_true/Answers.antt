-- Proof of `heard_literals_are_true`: each literal that a node has heard in a scenario holds in it, whatever the
-- tables are.
use Rattle.cpg_node.proofs.HeardTruth.{heard_true}
use Rattle.cpg_laws.proofs.heard_literals_are_true.Goals as goal

-- a literal that a node has heard is true of the scenario, by cpg_node/proofs/HeardTruth.antt
pub returns : goal.returns
returns c = heard_true
