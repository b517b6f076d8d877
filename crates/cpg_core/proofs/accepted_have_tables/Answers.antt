-- Proof of `accepted_have_tables`: an accepted graph in which no item is too wide by its views under the first order
-- has tables with its greatest finish.
use Rattle.cpg_core.proofs.AcceptedTables.{accepted_have_tables as law}
use Rattle.cpg_core.proofs.accepted_have_tables.Goals as goal

-- no item is too wide and nothing is late under the compile's order, so rows are made and fit; by
-- proofs/AcceptedTables.antt
pub returns : goal.returns
returns c = law
