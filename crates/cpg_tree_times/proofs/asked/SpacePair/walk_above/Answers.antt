-- Proof of `SpacePair::walk_above`: walks only the scenarios above a cut, and returns the lows that it had.
use Rattle.cpg_tree_times.proofs.asked.SpacePair.walk_above.Goals as goal

-- a scenario above the cut stays in the space that is walked, and in the one that is asked for
pub returns-clause-lies : goal.returns-clause-lies
returns-clause-lies c = λ s d h. (d.0, c.close_below.ensures.lies s d.1 h)
