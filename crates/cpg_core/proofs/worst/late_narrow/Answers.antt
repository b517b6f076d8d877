-- Proof of `late_narrow`: returns the fault `Late` of a late graph in which no item is too wide by its views.
use Rattle.cpg_core.proofs.Figures.{no_finish}
use Rattle.cpg_core.proofs.worst.late_narrow.Goals as goal

-- why the graph is not compiled is why it has no greatest finish
pub returns : goal.returns
returns c = no_finish c.args.admitted.now.graph c.args.admitted.now.order c.late.result c.requires.narrow c.late.ensures
