-- Proof of `rows_of`: returns the judge's answers for the graph with its best parts, for each fault number from 0 to
-- 8.
use Rattle.cpg_tune.proofs.AsBefore.{best_parts_of}
use Rattle.cpg_tune.proofs.tuning.rows_of.Goals as goal

-- the best parts are numbers from 1 to 255, one for each process
pub retuned-requires-clause-parts : goal.retuned-requires-clause-parts
retuned-requires-clause-parts g c = rw c.requires.parts (best_parts_of c.args.problem.now)
