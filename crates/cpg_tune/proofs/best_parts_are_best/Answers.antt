-- Proof of `best_parts_are_best`: no number of parts from 1 to 255 makes an execution shorter than the best one, and
-- each lesser number makes it longer.
use Rattle.cpg_tune.proofs.Fewest.{best_is_best}
use Rattle.cpg_tune.proofs.best_parts_are_best.Goals as goal

-- the fold keeps the first number of parts with which an execution is shortest
pub returns : goal.returns
returns c = best_is_best
