-- Proof of `SpacePair::close_below`: leaves the scenarios above a cut, and returns the lows that it had.
use Rattle.cpg_tree_times.proofs.asked.SpacePair.close_below.Goals as goal

-- a scenario above the cut stays in both spaces
pub returns-clause-lies : goal.returns-clause-lies
returns-clause-lies c = λ s d h. (c.close_below.ensures.lies s d.0 h, c.close_below-2.ensures.lies s d.1 h)
