-- Proof of `CompilerJudge::judge_each`: the answers for a graph with each fault number from 0 to 8.
use Rattle.cpg_app.proofs.tuning.CompilerJudge.judge_each.Goals as goal

-- the graph shows no fault with any fault number, so none with its own
pub admit_again-requires : goal.admit_again-requires
admit_again-requires c = c.requires c.args.problem.faults c.faults-faults.ensures.within.faults
