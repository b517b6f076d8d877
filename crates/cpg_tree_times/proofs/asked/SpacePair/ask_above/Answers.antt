-- Proof of `SpacePair::ask_above`: asks only for the scenarios above a cut, and returns the lows that it had.
use Rattle.cpg_tree_times.proofs.asked.SpacePair.ask_above.Goals as goal

-- a scenario above the cut stays in the space that is asked for, and in the one that is walked
pub returns-clause-lies : goal.returns-clause-lies
returns-clause-lies c = λ s d h. (c.close_below.ensures.lies s d.0 h, d.1)
