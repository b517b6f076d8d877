-- Proof of `SpacePair::walk_below`: walks only the scenarios up to a cut, and returns the highs that it had.
use Rattle.cpg_tree_times.proofs.asked.SpacePair.walk_below.Goals as goal

-- a scenario up to the cut stays in the space that is walked, and in the one that is asked for
pub returns-clause-lies : goal.returns-clause-lies
returns-clause-lies c = λ s d h. (d.0, c.close_above.ensures.lies s d.1 h)
