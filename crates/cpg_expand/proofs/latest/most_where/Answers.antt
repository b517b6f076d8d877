-- Proof of `most_where`, which returns the greatest time that `tree` has in a scenario in which `wanted` is true;
-- `None` exactly if there is none.
use Rattle.cpg_expand.proofs.LatestFound.{top_where}
use Rattle.cpg_expand.proofs.latest.most_where.Goals as goal

-- the greatest time over the paths of both trees is the greatest in any scenario, as the graph is within its limits
pub returns : goal.returns
returns c = top_where c.args.problem.now c.processes-processes.ensures.within.few_processes c.args.tree.now
    c.args.wanted.now c.requires.tree c.requires.wanted c.most_where.result
    c.most_where.ensures.none c.most_where.ensures.some
