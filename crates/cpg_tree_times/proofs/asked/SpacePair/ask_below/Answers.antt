-- Proof of `SpacePair::ask_below`: asks only for the scenarios up to a cut, and returns the highs that it had.
use Rattle.cpg_tree_times.proofs.asked.SpacePair.ask_below.Goals as goal

-- a scenario up to the cut stays in the space that is asked for, and in the one that is walked
pub returns-clause-lies : goal.returns-clause-lies
returns-clause-lies c = λ s d h. (c.close_above.ensures.lies s d.0 h, d.1)
